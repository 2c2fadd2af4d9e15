use Rattle.std.proofs.Common.{rules}
use Rattle.ee_cli_commands.specs.CommandLine.{value_asked}
use Rattle.ee_cli_commands.proofs.lines.value_line.Goals as goal

pub returns-in_err-issue : goal.returns-in_err-issue
unfolding value_asked
returns-in_err-issue c = search rules

pub returns-in_err-month : goal.returns-in_err-month
unfolding value_asked
returns-in_err-month c = search rules

pub returns-in_err-rate : goal.returns-in_err-rate
unfolding value_asked
returns-in_err-rate c = search rules

pub returns-in_err-rate_or_none : goal.returns-in_err-rate_or_none
unfolding value_asked
returns-in_err-rate_or_none c = search rules

pub returns : goal.returns
unfolding value_asked
returns c = search rules
