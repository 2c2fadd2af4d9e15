-- The question that a caller's numbers ask.
use Rattle.std.specs.Prelude.{ℕ, Option, Some, None, Result, Ok, Err}
use Rattle.ee_units.specs.Denoms.{denom_with}
use Rattle.ee_units.specs.Spelling.{in_range}
use Rattle.ee_units.specs.declared.denoms.Denom.{Denom}
use Rattle.ee_value_c.specs.Numbers.{month_in, issue_in}
use Rattle.ee_value_c.specs.declared.refusals.CallRefusal.{CallRefusal}
use Rattle.ee_value_c.specs.declared.refusals.CallRefusal.TheVariants as refusal
use Rattle.ee_value_c.specs.declared.questions.ValueQuestion.{ValueQuestion}
use Rattle.ee_value_c.specs.declared.questions.Question.{Question}

-- a question with these numbers
abbrev pub numbers : ℕ → ℕ → ℕ → ℕ → ℕ → ValueQuestion
numbers dollars issued month rate extension =
    record { dollars = dollars; issued = issued; month = month; rate = rate; extension = extension }

-- the values of the numbers, or the refusal of the first number that has none
abbrev pub question_read : Option Denom → Option ℕ → Option ℕ → Option ℕ → Option ℕ → Result Question CallRefusal
question_read None issued month rate extension = Err refusal.BadDenomination
question_read (Some d) None month rate extension = Err refusal.BadIssueMonth
question_read (Some d) (Some i) None rate extension = Err refusal.BadMonth
question_read (Some d) (Some i) (Some m) None extension = Err refusal.BadRate
question_read (Some d) (Some i) (Some m) (Some r) None = Err refusal.BadExtension
question_read (Some d) (Some i) (Some m) (Some r) (Some e) =
    Ok (record { denom = d; issued = i; month = m; rates = record { fixed = r; extension = e } })

-- the question; rates are in hundredths of a percent, 0 to 2000
unfoldable pub question_at : ValueQuestion → Result Question CallRefusal
question_at q = question_read (denom_with q.dollars) (issue_in q.issued) (month_in q.month) (in_range 0 2000 q.rate) (in_range 0 2000 q.extension)
