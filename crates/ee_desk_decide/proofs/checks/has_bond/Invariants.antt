use Rattle.std.proofs.Common.{◌≡◌, drop}
use Rattle.std.specs.List.{list_any}
use Rattle.ee_desk_model.specs.Serials.{same_serial}
use Rattle.ee_desk_decide.proofs.checks.has_bond.Given as goal

abbrev pub invariant-loop-other : goal.invariant-loop-other
invariant-loop-other l = list_any (λ other. same_serial l.serial other.serial) (drop l.other-index l.bonds) ≡ list_any (λ other. same_serial l.serial other.serial) l.bonds
