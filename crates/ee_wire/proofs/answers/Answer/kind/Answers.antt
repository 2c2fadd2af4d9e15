use Rattle.std.proofs.Common.{rules}
use Rattle.ee_wire.proofs.answers.Answer.kind.Goals as goal

pub returns-in-Sheet : goal.returns-in-Sheet
returns-in-Sheet c = search rules
