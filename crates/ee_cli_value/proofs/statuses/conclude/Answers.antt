use Rattle.std.proofs.Common.{rules}
use Rattle.ee_cli_value.proofs.statuses.conclude.Goals as goal

pub returns-then-is_ok : goal.returns-then-is_ok
returns-then-is_ok g c = search rules
