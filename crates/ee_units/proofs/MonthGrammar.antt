-- `month_of`, `day_of` and `serial_of` accept exactly the texts of the grammar.
use Rattle.std.proofs.Common.{◌≡◌, ◌∙◌, ℕ, suc, ◌<◌, ◌≤◌, ◌+◌, ◌-◌, ◌*◌, true, false, List, ◌∷◌, ◌++◌, length, get_or, Option, Some, None, Bool, refl, ap, arith, inl, inr, length-append, eqb-true}
use Rattle.std.specs.Prelude.{◌==◌, nat_lt, nat_le}
use Rattle.std.specs.Char.{is_ascii_digit}
use Rattle.std.specs.List.{position_or_len}
use Rattle.std.proofs.lemmas.Bool.{cases_Bool, cases_lt, leb-true, le-leb}
use Rattle.std.proofs.lemmas.Bool.Decides.{nat_tests}
use Rattle.std.proofs.lemmas.List.Sums.{position_or_len_is}
use Rattle.std.proofs.lemmas.List.{get_or_append_left, get_or-append-add}
use Rattle.std.proofs.lemmas.Option.{none-some, same_Some, option_and_then_some}
use Rattle.std.proofs.Math.Seq.{get_or-append_seam}
use Rattle.ee_units.specs.Spelling.{digits_of, parts_at, in_range, month_at, month_from, month_of}
use Rattle.ee_units.specs.Grammar.{WritesDigits, WritesMonth, year_first, month_first, IsMonthText}
use Rattle.ee_units.proofs.Numbers.{IsDigits}
use Rattle.ee_units.proofs.Parts.{number_of-writes, number_of-only, digit_at, digit_is_not, parts_at-joined, parts_at-split}
use Rattle.ee_units.proofs.RateGrammar.{in_range-is}

pub digits_of-writes : (count : ℕ) (ds : List ℕ) (n : ℕ) → WritesDigits count ds n → digits_of count ds ≡ Some n
unfolding digits_of
digits_of-writes count ds n w =
    let same : (length ds == count) ≡ true = rw w.long (grind (arith, nat_tests)) in
    rw same (number_of-writes count ds n w.writes)

pub digits_of-only : (count : ℕ) (ds : List ℕ) (n : ℕ) → digits_of count ds ≡ Some n → WritesDigits count ds n
unfolding digits_of
digits_of-only count ds n e = elim (cases_Bool (length ds == count)) [
  | inl holds ↦ record { long = eqb-true _ _ holds; writes = number_of-only count ds n (rw holds at e) }
  | inr fails ↦
      let none : None ≡ Some n = rw fails at e in
      absurd (none-some n none)
]

-- two numbers joined by one separator contain no other separator
parts_at-absent : (c d : ℕ) (xs ys : List ℕ) → is_ascii_digit c ≡ false → (d == c) ≡ false → IsDigits xs → IsDigits ys → parts_at c (xs ++ d ∷ ys) ≡ None
unfolding parts_at
parts_at-absent c d xs ys other differs first second =
    let p : ℕ → Bool = λ b. b == c in
    let text = xs ++ d ∷ ys in
    let n = length-append xs (d ∷ ys) in
    let more : length (d ∷ ys) ≡ length ys + 1 = omega arith in
    let none : (k : ℕ) → k < length text → p (get_or text k 0) ≡ false = λ k below. elim (cases_lt k (length xs)) [
      | inl early ↦ rw (get_or_append_left xs (d ∷ ys) 0 k early) (digit_is_not c (get_or xs k 0) other (digit_at xs k first early))
      | inr late ↦ elim (cases_lt (length xs) k) [
        | inl after ↦
            let j = k - length xs - 1 in
            let is : k ≡ length xs + suc j = omega arith in
            let short : j < length ys = omega arith in
            let at : get_or text k 0 ≡ get_or ys j 0 = ap (λ i. get_or text i 0) is ∙ get_or-append-add xs (d ∷ ys) (suc j) 0 in
            rw at (digit_is_not c (get_or ys j 0) other (digit_at ys j second short))
        | inr here ↦
            let is : k ≡ length xs = omega arith in
            rw (is, get_or-append_seam xs d ys 0) differs
      ]
    ] in
    let at : position_or_len p text ≡ length text = position_or_len_is p text (length text) 0 (omega arith) (λ k below. none k below) (λ below. absurd (omega (arith, below))) in
    let no : nat_lt (length text) (length text) ≡ false = grind (arith, nat_tests) in
    rw (at, no) refl

month_at-is : (year month n : ℕ) → 1 ≤ month → month ≤ 12 → year ≤ 2199 → 12 * year + month ≡ 12 * 2005 + 5 + n → month_at year month ≡ Some n
unfolding month_at
month_at-is year month n first last range value =
    let low : 2005 ≤ year = omega arith in
    let start : 24065 ≤ 12 * year + month = omega arith in
    let back : 12 * year + month - 24065 ≡ n = omega arith in
    rw (le-leb 1 month first, le-leb month 12 last, le-leb 2005 year low, le-leb year 2199 range, le-leb 24065 (12 * year + month) start) (ap Some back)

written_month : (text : List ℕ) (year month n : ℕ) → WritesMonth text year month → month_at year month ≡ Some n → month_of text ≡ Some n
unfolding month_of
written_month _ _ _ n (year_first ys ms year month y m) at =
    rw (parts_at-joined 45 ys ms refl y.writes.digits, digits_of-writes 4 ys year y, digits_of-writes 2 ms month m) at
written_month _ _ _ n (month_first ys ms year month y m) at =
    rw (parts_at-absent 45 47 ms ys refl refl m.writes.digits y.writes.digits, parts_at-joined 47 ms ys refl m.writes.digits, digits_of-writes 2 ms month m, digits_of-writes 4 ys year y) at

pub month_complete : (text : List ℕ) (n : ℕ) → IsMonthText text n → month_of text ≡ Some n
month_complete text n g = written_month text g.year g.month n g.written (month_at-is g.year g.month n g.first g.last g.range g.value)

month_only : (text : List ℕ) (year month n : ℕ) → WritesMonth text year month → month_at year month ≡ Some n → IsMonthText text n
unfolding month_at
month_only text year month n written e = option_and_then_some _ (in_range 1 12 month) n e (λ m is rest.
    let mm = in_range-is 1 12 month m is in
    option_and_then_some _ (in_range 2005 2199 year) n rest (λ y is_y at.
    let yy = in_range-is 2005 2199 year y is_y in
    elim (cases_Bool (nat_le 24065 (12 * y + m))) [
      | inl holds ↦
          let start : 24065 ≤ 12 * y + m = leb-true _ _ holds in
          let value : 12 * y + m - 24065 ≡ n = same_Some _ _ (rw holds at at) in
          record {
            year = year;
            month = month;
            written = written;
            first = omega (arith, mm);
            last = omega (arith, mm);
            range = omega (arith, yy);
            value = omega (arith, mm, yy, start, value);
          }
      | inr fails ↦
          let none : None ≡ Some n = rw fails at at in
          absurd (none-some n none)
    ]))

pub month_sound : (text : List ℕ) (n : ℕ) → month_of text ≡ Some n → IsMonthText text n
unfolding month_of
month_sound text n e = go (parts_at 45 text) (parts_at 47 text) refl refl e
  where
    go : (hyphen slash : Option (List ℕ × List ℕ)) → parts_at 45 text ≡ hyphen → parts_at 47 text ≡ slash → month_from hyphen slash ≡ Some n → IsMonthText text n
    go (Some p) slash is other e = option_and_then_some _ (digits_of 4 (p.0)) n e (λ y y_is rest.
        option_and_then_some _ (digits_of 2 (p.1)) n rest (λ m m_is at.
        month_only text y m n (rw (parts_at-split 45 text (p.0) (p.1) is) (year_first (p.0) (p.1) y m (digits_of-only 4 (p.0) y y_is) (digits_of-only 2 (p.1) m m_is))) at))
    go None (Some p) other is e = option_and_then_some _ (digits_of 2 (p.0)) n e (λ m m_is rest.
        option_and_then_some _ (digits_of 4 (p.1)) n rest (λ y y_is at.
        month_only text y m n (rw (parts_at-split 47 text (p.0) (p.1) is) (month_first (p.1) (p.0) y m (digits_of-only 4 (p.1) y y_is) (digits_of-only 2 (p.0) m m_is))) at))
    go None None _ _ e = absurd (none-some n e)
