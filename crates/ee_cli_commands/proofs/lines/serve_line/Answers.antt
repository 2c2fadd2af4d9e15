use Rattle.std.proofs.Common.{rules}
use Rattle.ee_cli_commands.specs.CommandLine.{serve_asked}
use Rattle.ee_cli_commands.proofs.lines.serve_line.Goals as goal

pub returns-in_err-port : goal.returns-in_err-port
unfolding serve_asked
returns-in_err-port c = search rules

pub returns-in_err-number_or : goal.returns-in_err-number_or
unfolding serve_asked
returns-in_err-number_or c = search rules

pub returns : goal.returns
unfolding serve_asked
returns c = search rules
