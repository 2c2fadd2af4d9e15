use Rattle.std.proofs.Common.{rules}
use Rattle.ee_wire.proofs.answers.Answer.status.Goals as goal

pub returns-in-Unserved : goal.returns-in-Unserved
returns-in-Unserved c = search rules
