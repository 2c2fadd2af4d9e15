use Rattle.std.proofs.Common.{rules}
use Rattle.ee_cli_value.proofs.lines.run_line.Goals as goal

pub returns-in-Ok : goal.returns-in-Ok
returns-in-Ok g c = search rules
