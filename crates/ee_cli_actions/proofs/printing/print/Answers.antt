use Rattle.std.proofs.Common.{rules}
use Rattle.ee_cli_actions.proofs.printing.print.Goals as goal

pub returns-else-write_whole-clause-printed : goal.returns-else-write_whole-clause-printed
returns-else-write_whole-clause-printed g c = search rules
