-- `rate_of` accepts exactly the rates of the grammar.
use Rattle.std.proofs.Common.{◌≡◌, ◌∙◌, ℕ, ◌<◌, ◌≤◌, ◌+◌, ◌-◌, ◌*◌, true, false, List, [], ◌∷◌, ◌++◌, length, get_or, take, Option, Some, None, refl, sym, ap, ap₂, arith, subst, inl, inr, length-append, true≢false, append_assoc, ◌&&◌, eqb-true, ltb-true}
use Rattle.std.specs.Prelude.{◌==◌, nat_le, if◌then◌else◌, option_and_then}
use Rattle.std.specs.Char.{is_ascii_digit}
use Rattle.std.specs.Io.BufRead.{strip_last, ends_with_byte}
use Rattle.std.proofs.lemmas.Bool.{cases_Bool, and_parts, leb-true, le-leb}
use Rattle.std.proofs.lemmas.Option.{none-some, same_Some, option_and_then_some}
use Rattle.std.proofs.lemmas.List.{append-nil, get_or-append-add}
use Rattle.std.proofs.Math.Seq.{get_or-append_seam}
use Rattle.std.proofs.lemmas.Bool.Decides.{nat_tests}
use Rattle.ee_units.specs.Spelling.{number_of, parts_at, hundredths_of, decimal_from, decimal_of, rate_of, in_range}
use Rattle.ee_units.specs.Grammar.{WritesNumber, Fraction, no_fraction, tenths, hundredths, Sign, no_sign, percent, IsRateText}
use Rattle.ee_units.proofs.Numbers.{IsDigits}
use Rattle.ee_units.proofs.Texts.{strip_last-end, strip_last-other, split_last}
use Rattle.ee_units.proofs.Parts.{number_of-writes, number_of-only, digit_at, parts_at-none, parts_at-joined, parts_at-split}

-- a text that ends with a digit keeps its last byte
pub strip_last-digits : (c : ℕ) (xs ds : List ℕ) → is_ascii_digit c ≡ false → IsDigits ds → 1 ≤ length ds → strip_last c (xs ++ ds) ≡ xs ++ ds
strip_last-digits c xs ds other digits some = strip_last-other c (xs ++ ds) (λ front same.
    let n = length-append xs ds in
    let m = length-append front (c ∷ []) in
    let one : length (c ∷ []) ≡ 1 = refl in
    let lengths : length (xs ++ ds) ≡ length (front ++ c ∷ []) = ap (λ (l : List ℕ). length l) same in
    let last : length front ≡ length xs + (length ds - 1) = omega arith in
    let is : get_or ds (length ds - 1) 0 ≡ c = sym (get_or-append-add xs ds (length ds - 1) 0) ∙ ap₂ (λ (l : List ℕ) i. get_or l i 0) same (sym last) ∙ get_or-append_seam front c [] 0 in
    true≢false (sym (digit_at ds (length ds - 1) digits (omega arith)) ∙ ap is_ascii_digit is ∙ other))

decimal_is : (whole fraction : List ℕ) (percents part : ℕ) → WritesNumber 2 whole percents → Fraction fraction part → decimal_of (whole ++ fraction) ≡ Some (100 * percents + part)
unfolding decimal_of hundredths_of
decimal_is whole _ percents _ w no_fraction =
    rw (append-nil whole, parts_at-none 46 whole refl w.digits, number_of-writes 2 whole percents w) (ap Some (omega arith))
decimal_is whole _ percents _ w (tenths ds n one writes) =
    let is_one : (length ds == 1) ≡ true = rw one refl in
    rw (parts_at-joined 46 whole ds refl w.digits, number_of-writes 2 whole percents w, number_of-writes 2 ds n writes, is_one) refl
decimal_is whole _ percents _ w (hundredths ds n two writes) =
    let is_two : (length ds == 1) ≡ false = rw two refl in
    rw (parts_at-joined 46 whole ds refl w.digits, number_of-writes 2 whole percents w, number_of-writes 2 ds n writes, is_two) refl

point : (whole ds : List ℕ) → whole ++ 46 ∷ ds ≡ (whole ++ 46 ∷ []) ++ ds
point whole ds = sym (append_assoc whole (46 ∷ []) ds)

point_digits : (whole ds : List ℕ) → IsDigits ds → 1 ≤ length ds → strip_last 37 ((whole ++ 46 ∷ ds) ++ []) ≡ whole ++ 46 ∷ ds
point_digits whole ds digits some =
    ap (strip_last 37) (append-nil (whole ++ 46 ∷ ds) ∙ point whole ds) ∙ strip_last-digits 37 (whole ++ 46 ∷ []) ds refl digits some ∙ sym (point whole ds)

-- a rate without its percent sign
unsigned : (whole fraction sign : List ℕ) (percents part : ℕ) → WritesNumber 2 whole percents → Fraction fraction part → Sign sign → strip_last 37 (whole ++ fraction ++ sign) ≡ whole ++ fraction
unsigned whole fraction _ percents part w f percent = strip_last-end 37 (whole ++ fraction)
unsigned whole _ _ percents _ w no_fraction no_sign = rw (append-nil whole) (rw (append-nil whole) (strip_last-digits 37 [] whole refl w.digits w.some))
unsigned whole _ _ percents _ w (tenths ds n one writes) no_sign = point_digits whole ds writes.digits writes.some
unsigned whole _ _ percents _ w (hundredths ds n two writes) no_sign = point_digits whole ds writes.digits writes.some

pub complete : (text : List ℕ) (r : ℕ) → IsRateText text r → rate_of text ≡ Some r
unfolding rate_of
complete text r g =
    let bare : strip_last 37 text ≡ g.whole ++ g.fraction = ap (strip_last 37) g.parts ∙ unsigned g.whole g.fraction g.sign g.percents g.part g.whole_is g.fraction_is g.sign_is in
    let value = decimal_is g.whole g.fraction g.percents g.part g.whole_is g.fraction_is in
    let top : 100 * g.percents + g.part ≤ 2000 = rw (← g.value) (g.range) in
    rw (bare, value, le-leb 0 (100 * g.percents + g.part) (omega arith), le-leb (100 * g.percents + g.part) 2000 top, g.value) refl

-- a number that `in_range` returns is the number given, and is in the range
pub in_range-is : (low high x r : ℕ) → in_range low high x ≡ Some r → (x ≡ r) × ((low ≤ r) × (r ≤ high))
in_range-is low high x r e = elim (cases_Bool (nat_le low x && nat_le x high)) [
  | inl holds ↦
      let p = and_parts _ _ holds in
      let is : x ≡ r = same_Some x r (rw holds at e) in
      let bottom : low ≤ x = leb-true _ _ p.0 in
      let top : x ≤ high = leb-true _ _ p.1 in
      (is, (omega arith, omega arith))
  | inr fails ↦
      let none : None ≡ Some r = rw fails at e in
      absurd (none-some r none)
]

-- the text without its percent sign, and the sign
record HasSign (text : List ℕ) : Type 0 where
  sign : List ℕ
  is : Sign sign
  parts : text ≡ strip_last 37 text ++ sign

sign_of : (text : List ℕ) → HasSign text
sign_of text = elim (cases_Bool (ends_with_byte 37 text)) [
  | inl holds ↦
      let p = and_parts _ _ holds in
      let some : 0 < length text = ltb-true _ _ p.0 in
      let last : get_or text (length text - 1) 0 ≡ 37 = eqb-true _ _ p.1 in
      record { sign = 37 ∷ []; is = percent; parts = rw holds (split_last text some ∙ ap (λ b. take (length text - 1) text ++ b ∷ []) last) }
  | inr fails ↦ record { sign = []; is = no_sign; parts = rw fails (sym (append-nil text)) }
]

fraction_only : (ds : List ℕ) (h : ℕ) → hundredths_of ds ≡ Some h → Fraction (46 ∷ ds) h
unfolding hundredths_of
fraction_only ds h e = option_and_then_some (λ n. Some (if length ds == 1 then 10 * n else n)) (number_of 2 ds) h e (λ n is same.
    let w = number_of-only 2 ds n is in
    elim (cases_Bool (length ds == 1)) [
      | inl one ↦
          let value : 10 * n ≡ h = same_Some _ _ (rw one at same) in
          subst (λ k. Fraction (46 ∷ ds) k) value (tenths ds n (eqb-true _ _ one) w)
      | inr more ↦
          let value : n ≡ h = same_Some _ _ (rw more at same) in
          let some : 1 ≤ length ds = w.some in
          let few : length ds ≤ 2 = w.few in
          let two : length ds ≡ 2 = grind (arith, nat_tests) in
          subst (λ k. Fraction (46 ∷ ds) k) value (hundredths ds n two w)
    ])

record IsDecimal (ds : List ℕ) (x : ℕ) : Type 0 where
  whole : List ℕ
  fraction : List ℕ
  percents : ℕ
  part : ℕ
  parts : ds ≡ whole ++ fraction
  whole_is : WritesNumber 2 whole percents
  fraction_is : Fraction fraction part
  value : x ≡ 100 * percents + part

decimal_only : (ds : List ℕ) (x : ℕ) → decimal_of ds ≡ Some x → IsDecimal ds x
unfolding decimal_of
decimal_only ds x e = go (parts_at 46 ds) refl e
  where
    go : (o : Option (List ℕ × List ℕ)) → parts_at 46 ds ≡ o → decimal_from ds o ≡ Some x → IsDecimal ds x
    go None none e = option_and_then_some (λ whole. Some (100 * whole)) (number_of 2 ds) x e (λ n is same. record {
      whole = ds;
      fraction = [];
      percents = n;
      part = 0;
      parts = sym (append-nil ds);
      whole_is = number_of-only 2 ds n is;
      fraction_is = no_fraction;
      value = sym (same_Some _ _ same) ∙ omega arith;
    })
    go (Some p) some e = option_and_then_some (λ whole. option_and_then (λ part. Some (100 * whole + part)) (hundredths_of (p.1))) (number_of 2 (p.0)) x e (λ n is rest.
        option_and_then_some (λ part. Some (100 * n + part)) (hundredths_of (p.1)) x rest (λ h part_is same. record {
          whole = p.0;
          fraction = 46 ∷ p.1;
          percents = n;
          part = h;
          parts = parts_at-split 46 ds (p.0) (p.1) some;
          whole_is = number_of-only 2 (p.0) n is;
          fraction_is = fraction_only (p.1) h part_is;
          value = sym (same_Some _ _ same);
        }))

pub sound : (text : List ℕ) (r : ℕ) → rate_of text ≡ Some r → IsRateText text r
unfolding rate_of
sound text r e = option_and_then_some (in_range 0 2000) (decimal_of (strip_last 37 text)) r e (λ x is within.
    let top = in_range-is 0 2000 x r within in
    let d = decimal_only (strip_last 37 text) x is in
    let s = sign_of text in
    record {
      whole = d.whole;
      fraction = d.fraction;
      sign = s.sign;
      percents = d.percents;
      part = d.part;
      parts = s.parts ∙ ap (λ t. t ++ s.sign) d.parts;
      whole_is = d.whole_is;
      fraction_is = d.fraction_is;
      sign_is = s.is;
      value = sym (top.0) ∙ d.value;
      range = omega (arith, top.1.1);
    })
