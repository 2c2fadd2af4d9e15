use Rattle.std.proofs.Common.{◌-◌, Result, Ok, Err, nat_le, nat_lt, refl, inl, inr}
use Rattle.std.proofs.lemmas.Bool.{cases_Bool}
use Rattle.ee_calculator.specs.Rows.{columns_of, value_in}
use Rattle.ee_value.specs.Open.{is_open}
use Rattle.ee_value.specs.Payment.{counted_age, is_payment_open}
use Rattle.ee_value_c.specs.declared.refusals.CallRefusal.{CallRefusal}
use Rattle.ee_value_c.specs.declared.questions.Question.{Question}
use Rattle.ee_value_c.specs.Questions.{question_at}
use Rattle.ee_value_c.specs.Answers.{row_of, row_at, payment_of, payment_at, row_asked, payment_asked, AreSame}
use Rattle.ee_value_c.proofs.laws.answers_law.Goals as goal

-- by cases on the bond's age and on whether its value is open
same : (q : Question) → AreSame (row_of q) (payment_of q)
unfolding row_of payment_of columns_of value_in is_payment_open
same q = elim (cases_Bool (nat_le q.issued q.month)) [
  | inr before ↦ rw before (refl, refl)
  | inl after ↦ rw after (elim (cases_Bool (nat_lt (q.month - q.issued) 12)) [
    | inl early ↦ rw early (refl, refl)
    | inr paid ↦ rw paid (elim (cases_Bool (is_open q.rates (counted_age (q.month - q.issued)) 62)) [
      | inl unsettled ↦ rw unsettled refl
      | inr settled ↦ rw settled (elim (cases_Bool (nat_lt (q.month - q.issued) 60)) [
        | inl young ↦ rw young refl
        | inr free ↦ rw free (elim (cases_Bool (nat_lt (q.month - q.issued) 360)) [
          | inl earning ↦ rw earning refl
          | inr matured ↦ rw matured refl
        ])
      ])
    ])
  ])
]

asked : (q : Result Question CallRefusal) → AreSame (row_asked q) (payment_asked q)
asked (Ok q) = same q
asked (Err e) = refl

pub returns : goal.returns
unfolding row_at payment_at
returns c question = asked (question_at question)
