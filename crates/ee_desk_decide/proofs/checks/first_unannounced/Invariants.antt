use Rattle.std.proofs.Common.{◌≡◌, drop}
use Rattle.ee_desk_model.specs.Refusals as is
use Rattle.ee_desk_decide.proofs.checks.first_unannounced.Given as goal

abbrev pub invariant-loop-row : goal.invariant-loop-row
invariant-loop-row l = is.first_of (is.unannounced) (drop l.row-index l.rows) ≡ is.first_of (is.unannounced) l.rows
