use Rattle.std.proofs.Common.{rules}
use Rattle.ee_cli_actions.proofs.filing.outcome.Goals as goal

pub returns-in-Refused : goal.returns-in-Refused
returns-in-Refused c = search rules
