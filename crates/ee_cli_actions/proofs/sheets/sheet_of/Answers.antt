use Rattle.ee_cli_actions.proofs.Lemmas.{shows_with}
use Rattle.ee_desk_model.specs.Queries.{IsInventory}
use Rattle.ee_cli_actions.proofs.sheets.sheet_of.Goals as goal

pub returns-clause-shows : goal.returns-clause-shows
returns-clause-shows g c clean content has = (
  c.inventory-shown.result,
  shows_with (IsInventory content.books c.args.customer c.args.month) c.inventory-shown.result (g.K.Keeper.has c.inventory-shown.new.self content) _
      (λ stays. (stays, c.inventory-shown.ensures.asks.goes clean)) (c.inventory-shown.ensures.asks.shows clean content has),
  c.print_sheet.ensures.told,
)
