-- `day_of` accepts exactly the days of the grammar.
use Rattle.std.proofs.Common.{◌≡◌, ◌∙◌, ℕ, ◌≤◌, true, List, ◌∷◌, ◌++◌, Some, None, refl, ap, arith, inl, inr, ℤ, pos, negsuc}
use Rattle.std.specs.Prelude.{◌&&◌, nat_le}
use Rattle.std.proofs.lemmas.Bool.{cases_Bool, and_parts, leb-true, le-leb}
use Rattle.std.proofs.lemmas.Option.{none-some, same_Some, option_and_then_some}
use Rattle.jiff_core.specs.Calendar.{days_from_civil}
use Rattle.ee_units.specs.Calendar.{is_date, day_in_range}
use Rattle.ee_units.specs.Spelling.{digits_of, parts_at, day_at, day_of}
use Rattle.ee_units.specs.Grammar.{IsDayText}
use Rattle.ee_units.proofs.Parts.{parts_at-joined, parts_at-split}
use Rattle.ee_units.proofs.MonthGrammar.{digits_of-writes, digits_of-only}

pub day_complete : (text : List ℕ) (n : ℕ) → IsDayText text n → day_of text ≡ Some n
unfolding day_of day_at
day_complete text n g =
    rw (g.parts, parts_at-joined 45 g.ys (g.ms ++ 45 ∷ g.ds) refl g.year_is.writes.digits, parts_at-joined 45 g.ms g.ds refl g.month_is.writes.digits, digits_of-writes 4 g.ys g.year g.year_is, digits_of-writes 2 g.ms g.month g.month_is, digits_of-writes 2 g.ds g.day g.day_is, g.date, g.value, le-leb 12904 n g.low, le-leb n 84005 g.high) refl

-- the count of a day is in range
record IsInDays (z : ℤ) (n : ℕ) : Type 0 where
  is : z ≡ pos n
  low : 12904 ≤ n
  high : n ≤ 84005

in_days : (z : ℤ) (n : ℕ) → day_in_range z ≡ Some n → IsInDays z n
in_days (pos k) n e = elim (cases_Bool (nat_le 12904 k && nat_le k 84005)) [
  | inl holds ↦
      let p = and_parts _ _ holds in
      let same : k ≡ n = same_Some _ _ (rw holds at e) in
      let low : 12904 ≤ k = leb-true _ _ p.0 in
      let high : k ≤ 84005 = leb-true _ _ p.1 in
      record { is = ap pos same; low = omega arith; high = omega arith }
  | inr fails ↦
      let none : None ≡ Some n = rw fails at e in
      absurd (none-some n none)
]
in_days (negsuc k) n e = absurd (none-some n e)

-- the text writes a date whose day is in range
record IsDateText (year month day n : ℕ) : Type 0 where
  date : is_date year month day ≡ true
  days : IsInDays (days_from_civil (pos year) month day) n

date_only : (year month day n : ℕ) → day_at year month day ≡ Some n → IsDateText year month day n
unfolding day_at
date_only year month day n e = elim (cases_Bool (is_date year month day)) [
  | inl holds ↦ record { date = holds; days = in_days (days_from_civil (pos year) month day) n (rw holds at e) }
  | inr fails ↦
      let none : None ≡ Some n = rw fails at e in
      absurd (none-some n none)
]

pub day_sound : (text : List ℕ) (n : ℕ) → day_of text ≡ Some n → IsDayText text n
unfolding day_of
day_sound text n e = option_and_then_some _ (parts_at 45 text) n e (λ parts parts_is a.
    option_and_then_some _ (parts_at 45 (parts.1)) n a (λ rest rest_is b.
    option_and_then_some _ (digits_of 4 (parts.0)) n b (λ year year_is d.
    option_and_then_some _ (digits_of 2 (rest.0)) n d (λ month month_is f.
    option_and_then_some _ (digits_of 2 (rest.1)) n f (λ day day_is at.
    let found = date_only year month day n at in
    record {
      ys = parts.0;
      ms = rest.0;
      ds = rest.1;
      year = year;
      month = month;
      day = day;
      parts = parts_at-split 45 text (parts.0) (parts.1) parts_is ∙ ap (λ t. parts.0 ++ 45 ∷ t) (parts_at-split 45 (parts.1) (rest.0) (rest.1) rest_is);
      year_is = digits_of-only 4 (parts.0) year year_is;
      month_is = digits_of-only 2 (rest.0) month month_is;
      day_is = digits_of-only 2 (rest.1) day day_is;
      date = found.date;
      value = found.days.is;
      low = found.days.low;
      high = found.days.high;
    })))))
