use Rattle.std.proofs.Common.{rules}
use Rattle.ee_cli_stores.proofs.files.fault_of.Goals as goal

pub returns-in-WrongVersion : goal.returns-in-WrongVersion
returns-in-WrongVersion c = search rules
