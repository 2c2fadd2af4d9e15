use Rattle.std.proofs.Common.{rules}
use Rattle.ee_desk_decide.proofs.decisions.decide.Goals as goal

pub returns-in-Some : goal.returns-in-Some
returns-in-Some c = search rules
