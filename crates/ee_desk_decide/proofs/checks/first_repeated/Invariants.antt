use Rattle.std.proofs.Common.{◌≡◌, [], take, drop}
use Rattle.ee_desk_model.specs.Refusals as is
use Rattle.ee_desk_decide.proofs.checks.first_repeated.Given as goal

abbrev pub invariant-loop-i : goal.invariant-loop-i
invariant-loop-i l = is.repeated (take l.i l.serials) (drop l.i l.serials) ≡ is.repeated [] l.serials
