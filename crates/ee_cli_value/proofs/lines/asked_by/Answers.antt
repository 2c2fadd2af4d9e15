use Rattle.std.proofs.Common.{rules}
use Rattle.ee_cli_value.proofs.lines.asked_by.Goals as goal

pub returns : goal.returns
returns c = search rules
