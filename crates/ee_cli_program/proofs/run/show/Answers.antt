use Rattle.std.proofs.Common.{rules}
use Rattle.ee_cli_program.proofs.run.show.Goals as goal

pub returns-in-Ok-clause-status : goal.returns-in-Ok-clause-status
returns-in-Ok-clause-status g c = search rules
