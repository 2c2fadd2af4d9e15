use Rattle.std.proofs.Common.{rules}
use Rattle.ee_cli_commands.proofs.commands.refusal.Goals as goal

pub returns-in_ok-to_string-in-DisplayHelp : goal.returns-in_ok-to_string-in-DisplayHelp
returns-in_ok-to_string-in-DisplayHelp c = search rules

pub returns-in-DisplayVersion : goal.returns-in-DisplayVersion
returns-in-DisplayVersion c = search rules
