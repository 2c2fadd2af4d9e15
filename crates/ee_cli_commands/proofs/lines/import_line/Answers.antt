use Rattle.std.proofs.Common.{rules}
use Rattle.ee_cli_commands.specs.CommandLine.{import_asked}
use Rattle.ee_cli_commands.proofs.lines.import_line.Goals as goal

pub returns-in_err-file : goal.returns-in_err-file
unfolding import_asked
returns-in_err-file c = search rules

pub returns-in_err-store : goal.returns-in_err-store
unfolding import_asked
returns-in_err-store c = search rules

pub returns-in_err-number : goal.returns-in_err-number
unfolding import_asked
returns-in_err-number c = search rules

pub returns-in_err-desk : goal.returns-in_err-desk
unfolding import_asked
returns-in_err-desk c = search rules

pub returns : goal.returns
unfolding import_asked
returns c = search rules
