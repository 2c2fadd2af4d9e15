-- Digits, and splitting a text at a byte that is no digit.
use Rattle.std.proofs.Common.{◌≡◌, ◌∙◌, ℕ, suc, ◌<◌, true, false, List, ◌∷◌, ◌++◌, length, get_or, Some, None, Bool, refl, sym, ap, ap₂, arith, inl, inr, length-append, true≢false, eqb-true, ltb-true}
use Rattle.std.specs.Prelude.{◌==◌, nat_lt}
use Rattle.std.specs.Char.{is_ascii_digit}
use Rattle.std.specs.List.{position_or_len}
use Rattle.std.specs.Str.Parse.{digits_value}
use Rattle.std.proofs.lemmas.Bool.{cases_Bool, le-leb, lt-ltb}
use Rattle.std.proofs.lemmas.Option.{none-some, same_Some}
use Rattle.std.proofs.lemmas.List.Folds.{list_all_at}
use Rattle.std.proofs.lemmas.List.Sums.{position_or_len_is, split_at_first, passes_at_first}
use Rattle.std.proofs.Math.Seq.{take-append_seam, get_or-append_seam, drop-append-add}
use Rattle.std.proofs.lemmas.List.{get_or_append_left}
use Rattle.std.proofs.lemmas.Bool.Decides.{nat_tests}
use Rattle.ee_units.specs.Spelling.{is_number, number_of, parts_at}
use Rattle.ee_units.specs.Grammar.{WritesNumber}
use Rattle.ee_units.proofs.Numbers.{number_facts, IsDigits}

pub number_of-writes : (most : ℕ) (ds : List ℕ) (n : ℕ) → WritesNumber most ds n → number_of most ds ≡ Some n
unfolding number_of is_number
number_of-writes most ds n w = rw (le-leb 1 (length ds) w.some, le-leb (length ds) most w.few, w.digits) (ap Some w.value)

pub number_of-only : (most : ℕ) (ds : List ℕ) (n : ℕ) → number_of most ds ≡ Some n → WritesNumber most ds n
unfolding number_of
number_of-only most ds n e = elim (cases_Bool (is_number most ds)) [
  | inl holds ↦
      let f = number_facts most ds holds in
      let is : Some (digits_value 10 ds) ≡ Some n = rw holds at e in
      record { some = f.0; few = f.1; digits = f.2; value = same_Some _ _ is }
  | inr fails ↦
      let none : None ≡ Some n = rw fails at e in
      absurd (none-some n none)
]

-- a byte that is no digit differs from each digit
pub digit_is_not : (c b : ℕ) → is_ascii_digit c ≡ false → is_ascii_digit b ≡ true → (b == c) ≡ false
digit_is_not c b other digit = elim (cases_Bool (b == c)) [
  | inl same ↦ absurd (true≢false (sym digit ∙ ap is_ascii_digit (eqb-true _ _ same) ∙ other))
  | inr differs ↦ differs
]

pub digit_at : (ds : List ℕ) (k : ℕ) → IsDigits ds → k < length ds → is_ascii_digit (get_or ds k 0) ≡ true
digit_at ds k digits below = elim (cases_Bool (is_ascii_digit (get_or ds k 0))) [
  | inl holds ↦ holds
  | inr fails ↦ absurd (true≢false (sym digits ∙ list_all_at is_ascii_digit ds k 0 below fails))
]

pub parts_at-none : (c : ℕ) (ds : List ℕ) → is_ascii_digit c ≡ false → IsDigits ds → parts_at c ds ≡ None
unfolding parts_at
parts_at-none c ds other digits =
    let p : ℕ → Bool = λ b. b == c in
    let at : position_or_len p ds ≡ length ds =
    position_or_len_is p ds (length ds) 0 (omega arith) (λ k below. digit_is_not c (get_or ds k 0) other (digit_at ds k digits below)) (λ below. absurd (omega (arith, below))) in
    let no : nat_lt (length ds) (length ds) ≡ false = grind (arith, nat_tests) in
    rw (at, no) refl

pub parts_at-joined : (c : ℕ) (xs ys : List ℕ) → is_ascii_digit c ≡ false → IsDigits xs → parts_at c (xs ++ c ∷ ys) ≡ Some (xs, ys)
unfolding parts_at
parts_at-joined c xs ys other digits =
    let p : ℕ → Bool = λ b. b == c in
    let n = length-append xs (c ∷ ys) in
    let more : length (c ∷ ys) ≡ suc (length ys) = refl in
    let below : length xs < length (xs ++ c ∷ ys) = omega arith in
    let same : (c == c) ≡ true = grind (arith, nat_tests) in
    let at : position_or_len p (xs ++ c ∷ ys) ≡ length xs =
    position_or_len_is p (xs ++ c ∷ ys) (length xs) 0 (omega arith)
    (λ k under. rw (get_or_append_left xs (c ∷ ys) 0 k under) (digit_is_not c (get_or xs k 0) other (digit_at xs k digits under)))
    (λ _. rw (get_or-append_seam xs c ys 0) same) in
    rw (at, lt-ltb (length xs) (length (xs ++ c ∷ ys)) below) (ap₂ (λ a b. Some (a, b)) (take-append_seam xs (c ∷ ys)) (drop-append-add xs (c ∷ ys) 1))

pub parts_at-split : (c : ℕ) (ds xs ys : List ℕ) → parts_at c ds ≡ Some (xs, ys) → ds ≡ xs ++ c ∷ ys
unfolding parts_at
parts_at-split c ds xs ys e = elim (cases_Bool (nat_lt (position_or_len (λ b. b == c) ds) (length ds))) [
  | inl holds ↦
      let below = ltb-true _ _ holds in
      let whole = split_at_first (λ b. b == c) ds 0 below in
      let is : get_or ds (position_or_len (λ b. b == c) ds) 0 ≡ c = eqb-true _ _ (passes_at_first (λ b. b == c) ds 0 below) in
      let parts = same_Some _ _ (rw holds at e) in
      whole ∙ ap₂ (λ a b. a ++ b) (ap (λ (p : List ℕ × List ℕ). p.0) parts) (ap₂ (λ a b. a ∷ b) is (ap (λ (p : List ℕ × List ℕ). p.1) parts))
  | inr fails ↦
      let none : None ≡ Some (xs, ys) = rw fails at e in
      absurd (none-some (xs, ys) none)
]
