use Rattle.std.proofs.Common.{rules}
use Rattle.ee_cli_commands.proofs.words.kind.Goals as goal

pub returns-in-Some-inventory : goal.returns-in-Some-inventory
returns-in-Some-inventory c = search rules
