use Rattle.std.proofs.Common.{◌≡◌, map, take}
use Rattle.std.specs.FinMap as finite
use Rattle.ee_units.specs.Calendar.{period_start}
use Rattle.ee_desk_model.specs.Views.{picked}
use Rattle.ee_desk_decide.specs.Noted.{rates_in}
use Rattle.ee_desk.proofs.seeing.rates_of_bonds.Given as goal

abbrev pub invariant-loop-bond : goal.invariant-loop-bond
invariant-loop-bond l = rates_in l.found.entries ≡ picked (finite.get l.ledger.rates) (map (λ bond. period_start bond.issued) (take l.bond-index l.bonds))
