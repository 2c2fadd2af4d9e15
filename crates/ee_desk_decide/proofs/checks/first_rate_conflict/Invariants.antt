use Rattle.std.proofs.Common.{◌≡◌, [], take, drop}
use Rattle.ee_desk_model.specs.Refusals as is
use Rattle.ee_desk_model.specs.Views.{shown_by}
use Rattle.ee_desk_decide.proofs.checks.first_rate_conflict.Given as goal

abbrev pub invariant-loop-i : goal.invariant-loop-i
invariant-loop-i l = is.rate_conflict (shown_by l.view) (take l.i l.rows) (drop l.i l.rows) ≡ is.rate_conflict (shown_by l.view) [] l.rows
