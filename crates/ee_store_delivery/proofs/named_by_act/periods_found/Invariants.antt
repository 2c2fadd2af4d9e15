use Rattle.std.proofs.Common.{◌≡◌, take}
use Rattle.std.specs.Option.{option_map}
use Rattle.std.specs.List.{filter_map}
use Rattle.std.specs.FinMap as finite
use Rattle.ee_desk_model.specs.Views.{period_of_held}
use Rattle.ee_store_books.specs.Found.{bonds_found}
use Rattle.ee_store_delivery.proofs.named_by_act.periods_found.Given as goal

abbrev pub invariant-loop-serial : goal.invariant-loop-serial
invariant-loop-serial l = l.periods.items ≡ filter_map (λ serial. option_map period_of_held (finite.get (bonds_found l.found.entries) serial)) (take l.serial-index l.serials)
