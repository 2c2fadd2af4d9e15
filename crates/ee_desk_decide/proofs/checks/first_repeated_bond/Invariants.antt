use Rattle.std.proofs.Common.{◌≡◌, [], take, drop}
use Rattle.ee_desk_model.specs.Refusals as is
use Rattle.ee_desk_decide.proofs.checks.first_repeated_bond.Given as goal

abbrev pub invariant-loop-i : goal.invariant-loop-i
invariant-loop-i l = is.repeated_bond (take l.i l.bonds) (drop l.i l.bonds) ≡ is.repeated_bond [] l.bonds
