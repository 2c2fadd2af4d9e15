use Rattle.std.proofs.Common.{rules}
use Rattle.ee_cli_actions.proofs.reasons.ReasonDisplay.fmt.Goals as goal

pub returns-in-Fault-clause-writes : goal.returns-in-Fault-clause-writes
returns-in-Fault-clause-writes g c = search rules
