-- The answers of the library.
use Rattle.std.specs.Prelude.{◌≡◌, ℕ, ◌*◌, Bool, false, nat_lt, if◌then◌else◌, Option, Some, None, Result, Ok, Err, ℤ, pos, neg_ℤ}
use Rattle.ee_units.specs.Calendar.{age_of}
use Rattle.ee_units.specs.Denoms.{units_of}
use Rattle.ee_units.specs.declared.denoms.Denom.{Denom}
use Rattle.ee_value.specs.declared.rates.Rates.{Rates}
use Rattle.ee_value.specs.Value.{redemption}
use Rattle.ee_value.specs.Payment.{is_payment_open}
use Rattle.ee_calculator.specs.declared.notes.Note.{Note}
use Rattle.ee_calculator.specs.declared.notes.Note.TheVariants as note
use Rattle.ee_calculator.specs.Rows.{Columns, columns_of}
use Rattle.ee_value_c.specs.Numbers.{month_number}
use Rattle.ee_value_c.specs.Statuses.{status_of}
use Rattle.ee_value_c.specs.Questions.{question_at}
use Rattle.ee_value_c.specs.declared.refusals.CallRefusal.{CallRefusal}
use Rattle.ee_value_c.specs.declared.refusals.CallRefusal.TheVariants as refusal
use Rattle.ee_value_c.specs.declared.answers.ValueRow.{ValueRow}
use Rattle.ee_value_c.specs.declared.questions.ValueQuestion.{ValueQuestion}
use Rattle.ee_value_c.specs.declared.questions.Question.{Question}

-- the numbers of notes
abbrev pub note_number : Note → ℕ
note_number note.Plain = 0
note_number note.Ni = 1
note_number note.Ne = 2
note_number note.P5 = 3
note_number note.Ma = 4

-- the part of a value that is paid: nothing before 12 months of age
abbrev pub payable : Note → ℕ → ℕ
payable note.Ni value = 0
payable note.Ne value = 0
payable note.P5 value = value
payable note.Plain value = value
payable note.Ma value = value

-- the answer that shows these columns of the calculator
abbrev pub row_with : Columns → ValueRow
row_with columns = record {
  payable_cents = payable columns.note columns.value;
  price_cents = columns.price;
  interest_cents = columns.interest;
  value_cents = columns.value;
  status = 0;
  note = note_number columns.note;
  next_accrual = month_number columns.next_accrual;
  final_maturity = month_number columns.final_maturity;
}

-- the answer of a refused call: its status, and zeros
abbrev pub refused : ℕ → ValueRow
refused n = record {
  payable_cents = 0;
  price_cents = 0;
  interest_cents = 0;
  value_cents = 0;
  status = n;
  note = 0;
  next_accrual = 0;
  final_maturity = 0;
}

-- the value of a bond at that age is open with 62 binary places; False without an age
abbrev pub is_row_open : Rates → Option ℕ → Bool
is_row_open rates None = false
is_row_open rates (Some a) = is_payment_open rates a 62

-- the row that is asked for, if its value is settled
unfoldable pub row_of : Question → Result ValueRow CallRefusal
row_of q =
    if is_row_open q.rates (age_of q.issued q.month) then Err refusal.Unsettled
    else Ok (row_with (columns_of (units_of q.denom) q.issued q.rates q.month))

abbrev pub row_asked : Result Question CallRefusal → Result ValueRow CallRefusal
row_asked (Ok q) = row_of q
row_asked (Err e) = Err e

-- the row that the numbers ask for, or the first refusal
unfoldable pub row_at : ValueQuestion → Result ValueRow CallRefusal
row_at q = row_asked (question_at q)

-- what a bond of that age pays; without an age it isn't issued yet
abbrev pub paid_at : Denom → Rates → Option ℕ → Result ℕ CallRefusal
paid_at d rates None = Err refusal.NotIssued
paid_at d rates (Some a) = if nat_lt a 12 then Err refusal.NotEligible
    else if is_payment_open rates a 62 then Err refusal.Unsettled
    else Ok (units_of d * redemption rates a)

-- the payment that is asked for
unfoldable pub payment_of : Question → Result ℕ CallRefusal
payment_of q = paid_at q.denom q.rates (age_of q.issued q.month)

abbrev pub payment_asked : Result Question CallRefusal → Result ℕ CallRefusal
payment_asked (Ok q) = payment_of q
payment_asked (Err e) = Err e

-- the payment that the numbers ask for, or the first refusal
unfoldable pub payment_at : ValueQuestion → Result ℕ CallRefusal
payment_at q = payment_asked (question_at q)

-- the answer as a row; a refusal is its status
abbrev pub row_or_refused : Result ValueRow CallRefusal → ValueRow
row_or_refused (Ok row) = row
row_or_refused (Err e) = refused (status_of e)

-- the answer as a number: cents, or the negated status of a refusal
abbrev pub cents_or_refused : Result ℕ CallRefusal → ℤ
cents_or_refused (Ok cents) = pos cents
cents_or_refused (Err e) = neg_ℤ (pos (status_of e))

-- the answer to a question
abbrev pub answer_to : ValueQuestion → ValueRow
answer_to q = row_or_refused (row_at q)

-- the bond pays nothing yet, and the note of its row says why
abbrev pub IsUnpaid : CallRefusal → ℕ → Type 0
IsUnpaid refusal.NotIssued n = n ≡ note_number note.Ni
IsUnpaid refusal.NotEligible n = n ≡ note_number note.Ne
IsUnpaid refusal.BadDenomination n = ⊥
IsUnpaid refusal.BadIssueMonth n = ⊥
IsUnpaid refusal.BadMonth n = ⊥
IsUnpaid refusal.BadRate n = ⊥
IsUnpaid refusal.BadExtension n = ⊥
IsUnpaid refusal.Unsettled n = ⊥

-- a row and a payment for the same numbers agree: the row pays those cents; if nothing is paid yet, it pays 0 and its note
-- says why; any other refusal is the same for both
abbrev pub AreSame : Result ValueRow CallRefusal → Result ℕ CallRefusal → Type 0
AreSame (Ok row) (Ok cents) = row.payable_cents ≡ cents
AreSame (Ok row) (Err e) = (row.payable_cents ≡ 0) × IsUnpaid e row.note
AreSame (Err e) payment = payment ≡ Err e
