use Rattle.std.proofs.Common.{◌≡◌, map, take}
use Rattle.ee_units.specs.Calendar.{period_start}
use Rattle.ee_store_delivery.proofs.named_by_act.periods_of_bonds.Given as goal

abbrev pub invariant-loop-bond : goal.invariant-loop-bond
invariant-loop-bond l = l.periods.items ≡ map (λ bond. period_start bond.issued) (take l.bond-index l.bonds)
