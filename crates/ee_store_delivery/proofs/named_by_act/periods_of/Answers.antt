use Rattle.std.proofs.Common.{◌∙◌, sym, ap}
use Rattle.std.specs.Option.{option_map}
use Rattle.std.specs.List.{filter_map}
use Rattle.std.specs.FinMap as finite
use Rattle.ee_units.specs.Spelling.{SerialNumber}
use Rattle.std.proofs.lemmas.Result.{IfOk-weaker}
use Rattle.ee_desk_model.specs.Seen.{held_of}
use Rattle.ee_desk_model.specs.Views.{picked, period_of_held, serials_of, periods_of}
use Rattle.ee_store_books.specs.Found.{bonds_found}
use Rattle.ee_store_delivery.proofs.Named.{periods_named}
use Rattle.ee_store_delivery.proofs.named_by_act.periods_of.Goals as goal

pub returns-in-Redeem : goal.returns-in-Redeem
returns-in-Redeem c =
    let found = bonds_found c.args.found.now.entries in
    let look = λ (s : SerialNumber). option_map period_of_held (finite.get found s) in
    IfOk-weaker c.periods_found.result _ _ (λ periods items books found_is.
    items ∙ ap (filter_map look) c.as_slice-in-Redeem.ensures
    ∙ periods_named books found c.in-Redeem.serials (found_is ∙ ap (λ a. picked (held_of books) (serials_of a)) c.in-Redeem.is)
    ∙ ap (periods_of books) (sym c.in-Redeem.is))
    c.periods_found.ensures
