use Rattle.std.proofs.Common.{rules}
use Rattle.ee_wire.proofs.answers.Answer.ends_connection.Goals as goal

pub returns-in-Fault-Framing : goal.returns-in-Fault-Framing
returns-in-Fault-Framing c = search rules
