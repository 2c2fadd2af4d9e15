use Rattle.std.proofs.Common.{rules}
use Rattle.ee_desk_decide.proofs.checks.refusal_of_length.Goals as goal

pub returns-then-count-most : goal.returns-then-count-most
returns-then-count-most c = search rules
