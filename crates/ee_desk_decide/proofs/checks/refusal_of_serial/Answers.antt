use Rattle.std.proofs.Common.{rules}
use Rattle.ee_desk_decide.proofs.checks.refusal_of_serial.Goals as goal

pub returns-in-Some-ticket : goal.returns-in-Some-ticket
returns-in-Some-ticket c = search rules

pub returns : goal.returns
returns c = search rules
