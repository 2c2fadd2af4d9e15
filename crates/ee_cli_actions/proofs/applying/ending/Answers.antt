use Rattle.std.proofs.Common.{rules}
use Rattle.ee_cli_actions.proofs.applying.ending.Goals as goal

pub returns-in-Closed : goal.returns-in-Closed
returns-in-Closed c = search rules

pub returns-in-Fault : goal.returns-in-Fault
returns-in-Fault c = search rules

pub returns-in-ReadFailed : goal.returns-in-ReadFailed
returns-in-ReadFailed c = search rules

pub returns-in-NoMemory : goal.returns-in-NoMemory
returns-in-NoMemory c = search rules
