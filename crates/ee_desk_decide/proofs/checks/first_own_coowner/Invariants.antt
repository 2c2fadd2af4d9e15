use Rattle.std.proofs.Common.{◌≡◌, drop}
use Rattle.ee_desk_model.specs.Refusals as is
use Rattle.ee_desk_decide.proofs.checks.first_own_coowner.Given as goal

abbrev pub invariant-loop-bond : goal.invariant-loop-bond
invariant-loop-bond l = is.first_of (is.own_coowner) (drop l.bond-index l.bonds) ≡ is.first_of (is.own_coowner) l.bonds
