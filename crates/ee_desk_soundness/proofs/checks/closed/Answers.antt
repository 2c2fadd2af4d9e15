use Rattle.std.proofs.Common.{rules}
use Rattle.ee_desk_soundness.proofs.checks.closed.Goals as goal

pub returns-clause-right : goal.returns-clause-right
returns-clause-right c = search rules
