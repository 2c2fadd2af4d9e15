use Rattle.std.proofs.Common.{◌≡◌, take}
use Rattle.std.specs.Option.{option_map}
use Rattle.std.specs.List.{filter_map}
use Rattle.std.specs.FinMap as finite
use Rattle.ee_desk_model.specs.Seen.{held_of}
use Rattle.ee_desk_model.specs.Views.{picked, period_of_held}
use Rattle.ee_desk_decide.specs.Noted.{rates_in}
use Rattle.ee_desk.proofs.seeing.rates_of_serials.Given as goal

abbrev pub invariant-loop-serial : goal.invariant-loop-serial
invariant-loop-serial l = rates_in l.found.entries ≡ picked (finite.get l.ledger.rates) (filter_map (λ s. option_map period_of_held (held_of l.ledger s)) (take l.serial-index l.serials))
