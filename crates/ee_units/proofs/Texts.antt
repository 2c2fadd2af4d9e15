use Rattle.std.proofs.Common.{◌≡◌, ◌≢◌, ◌∙◌, ℕ, ◌<◌, ◌≤◌, ◌-◌, ◌&&◌, ◌++◌, true, false, List, [], ◌∷◌, length, take, drop, get_or, Option, Some, None, Bor, arith, refl, sym, ap, length-append, drop-cons, suc, ltb-true, eqb-true, inl, inr}
use Rattle.std.specs.Prelude.{MatchOption, unwrap_or, ◌==◌, nat_le, IsUtf8, option_map}
use Rattle.std.specs.Io.BufRead.{strip_last, ends_with_byte}
use Rattle.std.proofs.lemmas.List.{take-append-drop}
use Rattle.std.proofs.Math.Seq.{take-append_seam, get_or-append_seam, drop-length}
use Rattle.std.proofs.lemmas.Bool.{and_parts, leb-true, cases_Bool}
use Rattle.std.specs.Str.{IsCharBoundary}
use Rattle.std.proofs.lemmas.Str.{IsCharBoundary-after_ascii}
use Rattle.std.proofs.lemmas.Str.Pattern.{ends_text}
use Rattle.std.specs.Str.Pattern.{FindsTextSuffix, HasSuffixMatch, StripsSuffix}
use Rattle.ee_units.specs.Spelling.{strip_first, serial_of, serial_from, before_end}
use Rattle.std.proofs.lemmas.Bool.Decides.{nat_tests}

-- a text that ends with `c`, without it
pub strip_last-end : (c : ℕ) (xs : List ℕ) → strip_last c (xs ++ c ∷ []) ≡ xs
strip_last-end c xs =
    let n = length-append xs (c ∷ []) in
    let one : length (c ∷ []) ≡ 1 = refl in
    let last : get_or (xs ++ c ∷ []) (length (xs ++ c ∷ []) - 1) 0 ≡ c =
    let at : length (xs ++ c ∷ []) - 1 ≡ length xs = omega arith in
    rw at (get_or-append_seam xs c [] 0) in
    let yes : ends_with_byte c (xs ++ c ∷ []) ≡ true = grind (arith, nat_tests) in
    let at : length (xs ++ c ∷ []) - 1 ≡ length xs = omega arith in
    rw (yes, at) (take-append_seam xs (c ∷ []))

-- a list is its front and its last element
pub split_last : (xs : List ℕ) → 0 < length xs → xs ≡ take (length xs - 1) xs ++ get_or xs (length xs - 1) 0 ∷ []
split_last xs some =
    let n : suc (length xs - 1) ≡ length xs = omega arith in
    let at : length xs - 1 < length xs = omega arith in
    let rest : drop (suc (length xs - 1)) xs ≡ [] = rw n (drop-length xs) in
    let tail : drop (length xs - 1) xs ≡ get_or xs (length xs - 1) 0 ∷ [] = drop-cons xs (length xs - 1) 0 at ∙ ap (λ t. get_or xs (length xs - 1) 0 ∷ t) rest in
    sym (take-append-drop (length xs - 1) xs) ∙ ap (λ t. take (length xs - 1) xs ++ t) tail

pub strip_last-other : (c : ℕ) (xs : List ℕ) → ((front : List ℕ) → xs ≢ front ++ c ∷ []) → strip_last c xs ≡ xs
strip_last-other c xs none = elim (cases_Bool (ends_with_byte c xs)) [
  | inl holds ↦
      let p = and_parts _ _ holds in
      let some : 0 < length xs = ltb-true _ _ p.0 in
      let last : get_or xs (length xs - 1) 0 ≡ c = eqb-true _ _ p.1 in
      absurd (none (take (length xs - 1) xs) (split_last xs some ∙ ap (λ b. take (length xs - 1) xs ++ b ∷ []) last))
  | inr fails ↦ rw fails refl
]

-- the result of `strip_suffix`, or the whole text if it found nothing
pub strip_suffix_or : (c : ℕ) (text r : Bor (List ℕ)) (o : Option (Bor (List ℕ))) → MatchOption o ((front : List ℕ) → text.now ≢ front ++ c ∷ []) (λ x. text.now ≡ x.now ++ c ∷ []) → r ≡ unwrap_or o text → r.now ≡ strip_last c text.now
strip_suffix_or c text r None h e = ap (λ (b : Bor (List ℕ)). b.now) e ∙ sym (strip_last-other c text.now h)
strip_suffix_or c text r (Some x) h e = ap (λ (b : Bor (List ℕ)). b.now) e ∙ sym (rw h (strip_last-end c x.now))

pub strip_first-other : (c : ℕ) (xs : List ℕ) → ((rest : List ℕ) → xs ≢ c ∷ rest) → strip_first c xs ≡ xs
strip_first-other c [] none = refl
strip_first-other c (x ∷ xs) none = elim (cases_Bool (x == c)) [
  | inl holds ↦ absurd (none xs (ap (λ b. b ∷ xs) (eqb-true _ _ holds)))
  | inr fails ↦ rw fails refl
]

pub strip_first-front : (c : ℕ) (xs : List ℕ) → strip_first c (c ∷ xs) ≡ xs
strip_first-front c xs = let same : (c == c) ≡ true = grind (arith, nat_tests) in rw same refl

-- the result of `strip_prefix`, or the whole text if it found nothing
pub strip_prefix_or : (c : ℕ) (text r : Bor (List ℕ)) (o : Option (Bor (List ℕ))) → MatchOption o ((rest : List ℕ) → text.now ≢ c ∷ rest) (λ x. text.now ≡ c ∷ x.now) → r ≡ unwrap_or o text → r.now ≡ strip_first c text.now
strip_prefix_or c text r None h e = ap (λ (b : Bor (List ℕ)). b.now) e ∙ sym (strip_first-other c text.now h)
strip_prefix_or c text r (Some x) h e = ap (λ (b : Bor (List ℕ)). b.now) e ∙ sym (rw h (strip_first-front c x.now))

-- a text that can't be split after its first byte is no serial number
pub no_serial : (text : List ℕ) → IsUtf8 text → ¬ (IsCharBoundary text 1) → serial_of text ≡ None
unfolding serial_from
no_serial [] u cut = refl
no_serial (letter ∷ rest) u cut = elim (cases_Bool (nat_le 65 letter && nat_le letter 90)) [
  | inl holds ↦
      let p = and_parts (nat_le 65 letter) (nat_le letter 90) holds in
      let top : letter ≤ 90 = leb-true _ _ p.1 in
      let one : length (letter ∷ rest) ≡ suc (length rest) = refl in
      let first : get_or (letter ∷ rest) 0 0 < 128 = omega arith in
      absurd (cut (IsCharBoundary-after_ascii (letter ∷ rest) 0 u (omega arith) first))
  | inr fails ↦ rw fails refl
]

-- the result of `strip_suffix` on a text
pub before_end_is : (n s : List ℕ) (o : Option (Bor (List ℕ))) → MatchOption o (FindsTextSuffix n s None) (λ x. StripsSuffix (FindsTextSuffix n) s x.now) → option_map (λ x. x.now) o ≡ before_end n s
before_end_is n s None h = let lacks = sym (ends_text false n s h) in rw lacks refl
before_end_is n s (Some x) h =
    let (k, f, cut, len) = h in
    let same : length s - k ≡ length s - length n = ap (λ j. length s - j) f.0 in
    let whole : HasSuffixMatch (FindsTextSuffix n) s = (k, f, (let le : k ≤ length s = omega (arith, len) in le), rw (f.0) (f.2)) in
    let holds = sym (ends_text true n s whole) in
    rw holds (ap Some (cut ∙ ap (λ j. take j s) same))
