use Rattle.std.proofs.Common.{◌++◌, [], sym, ap, ◌∙◌}
use Rattle.std.specs.Option.{option_map}
use Rattle.std.specs.List.{cons_option}
use Rattle.std.specs.FinMap as finite
use Rattle.ee_units.specs.Spelling.{SerialNumber}
use Rattle.ee_desk_model.specs.Views.{period_of_held}
use Rattle.ee_store_books.specs.Found.{bonds_found}
use Rattle.ee_store_delivery.proofs.Named.{found_next}
use Rattle.ee_store_delivery.proofs.named_by_act.periods_found.Goals as goal

pub loop-serial-preserved : goal.loop-serial-preserved
loop-serial-preserved c =
    let look = λ (s : SerialNumber). option_map period_of_held (finite.get (bonds_found c.args.found.now.entries) s) in
    c.in_ok-push_period.ensures
    ∙ (λ i. c.loop-serial.invariant i ++ cons_option (option_map period_of_held ((c.found_of.ensures ∙ ap (finite.get (bonds_found c.args.found.now.entries)) c.serial-item.is) i)) [])
    ∙ sym (found_next look c.args.serials.now c.loop-serial.serial-index c.serial-item.result c.loop-serial-test.true)
