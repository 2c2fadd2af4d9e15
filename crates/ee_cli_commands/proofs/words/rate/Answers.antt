use Rattle.std.proofs.Common.{rules}
use Rattle.ee_cli_commands.proofs.words.rate.Goals as goal

pub returns-in-Some : goal.returns-in-Some
returns-in-Some c = search rules
