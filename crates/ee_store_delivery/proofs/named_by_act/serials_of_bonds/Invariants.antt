use Rattle.std.proofs.Common.{◌≡◌, map, take}
use Rattle.ee_store_delivery.proofs.named_by_act.serials_of_bonds.Given as goal

abbrev pub invariant-loop-bond : goal.invariant-loop-bond
invariant-loop-bond l = l.serials.items ≡ map (λ bond. bond.serial) (take l.bond-index l.bonds)
