use Rattle.std.proofs.Common.{rules}
use Rattle.ee_cli_value.proofs.values.print_value.Goals as goal

pub returns-in-Ok-2-clause-printed : goal.returns-in-Ok-2-clause-printed
returns-in-Ok-2-clause-printed g c = search rules
