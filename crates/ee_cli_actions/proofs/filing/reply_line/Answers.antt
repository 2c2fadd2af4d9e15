use Rattle.std.proofs.Common.{rules}
use Rattle.ee_cli_actions.proofs.filing.reply_line.Goals as goal

pub returns : goal.returns
returns c = search rules
