use Rattle.std.proofs.Common.{ap, sym, ◌∙◌, map, Some}
use Rattle.std.specs.List.{filter_map}
use Rattle.std.specs.FinMap.{FinMap}
use Rattle.std.specs.Ordering.{nat_cmp}
use Rattle.ee_value.specs.declared.rates.Rates.{Rates}
use Rattle.ee_desk_model.specs.Queries.{row_of, bonds_of, sheet_of, sheet_in}
use Rattle.ee_desk_decide.proofs.Lemmas.{sheet_shows_rows}
use Rattle.ee_desk.proofs.EveryRow.{every_row}
use Rattle.ee_desk.proofs.books.Books.inventory.Goals as goal

pub returns-clause-sheet : goal.returns-clause-sheet
returns-clause-sheet c =
    sheet_shows_rows c.sheet.result c.in_ok-rows.rows.items c.sheet.ensures.rows c.sheet.ensures.price c.sheet.ensures.value c.sheet.ensures.interest
    ∙ ap sheet_of (c.in_ok-rows.ensures ∙ ap (λ (rates : FinMap nat_cmp Rates). filter_map (row_of rates c.args.month) c.as_slice.result.now) c.rates.ensures
    ∙ ap (filter_map (row_of c.self.inside.ledger.rates c.args.month)) (c.as_slice.ensures.value ∙ c.in_ok-bonds.ensures))
    ∙ ap (λ b. sheet_in b.rates c.args.month (bonds_of c.args.self.now c.args.customer)) c.self.view_is

pub returns-clause-whole : goal.returns-clause-whole
returns-clause-whole c =
    ap (map (λ row. row.serial)) c.sheet.ensures.rows
    ∙ every_row c.self.inside.ledger c.args.customer c.args.month c.in_ok-rows.rows.items c.self.invariant
    (c.in_ok-rows.ensures ∙ ap (λ (rates : FinMap nat_cmp Rates). filter_map (row_of rates c.args.month) c.as_slice.result.now) c.rates.ensures
    ∙ ap (filter_map (row_of c.self.inside.ledger.rates c.args.month)) (c.as_slice.ensures.value ∙ c.in_ok-bonds.ensures ∙ ap (λ b. bonds_of b c.args.customer) (sym c.self.view_is)))
    ∙ ap (λ b. map (λ bond. Some bond.serial) (bonds_of b c.args.customer)) c.self.view_is
