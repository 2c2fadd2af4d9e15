use Rattle.std.proofs.Common.{rules}
use Rattle.ee_desk_decide.proofs.checks.refusal_of_open.Goals as goal

pub returns-in_default : goal.returns-in_default
returns-in_default c = search rules
