use Rattle.std.proofs.Common.{rules}
use Rattle.ee_desk.proofs.seeing.needed_of.Goals as goal

pub returns-in-Some : goal.returns-in-Some
returns-in-Some c = search rules
