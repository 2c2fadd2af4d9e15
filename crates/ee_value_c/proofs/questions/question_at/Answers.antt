use Rattle.std.proofs.Common.{rules}
use Rattle.ee_value_c.specs.Questions.{question_at}
use Rattle.ee_value_c.proofs.questions.question_at.Goals as goal

pub returns : goal.returns
unfolding question_at
returns c = search rules

pub returns-in_err-denom : goal.returns-in_err-denom
unfolding question_at
returns-in_err-denom c = search rules
