-- `serial_of` accepts exactly the serial numbers of the grammar.
use Rattle.std.proofs.Common.{◌≡◌, ◌∙◌, ℕ, ◌<◌, ◌≤◌, ◌+◌, ◌-◌, true, false, List, [], ◌∷◌, ◌++◌, length, get_or, take, drop, Some, None, refl, sym, ap, ap₂, arith, inl, inr, length-append, eqb-true, ltb-true, take-append-drop}
use Rattle.std.specs.Prelude.{◌==◌, ◌&&◌, codes, nat_eq}
use Rattle.std.specs.List.{ends_with}
use Rattle.std.specs.Cmp.Lexicographic.{pointwise}
use Rattle.std.specs.Io.BufRead.{strip_last, ends_with_byte}
use Rattle.std.proofs.lemmas.Bool.{cases_Bool, and_parts, false≢true, le-leb}
use Rattle.std.proofs.lemmas.List.{append-nil}
use Rattle.std.proofs.lemmas.Option.{none-some, same_Some, option_and_then_some}
use Rattle.std.proofs.Math.Seq.{drop-append_seam, take-append_seam}
use Rattle.ee_units.specs.Spelling.{number_of, in_range, strip_first, before_end, SerialNumber, serial_from, serial_of}
use Rattle.ee_units.specs.Grammar.{WritesNumber, Hyphen, no_hyphen, hyphen, IsSerialText}
use Rattle.ee_units.proofs.Numbers.{IsDigits}
use Rattle.ee_units.proofs.Parts.{number_of-writes, number_of-only, digit_at, digit_is_not}
use Rattle.ee_units.proofs.RateGrammar.{in_range-is, strip_last-digits}
use Rattle.ee_units.proofs.Texts.{split_last, strip_last-end, strip_first-front}

before_end-append : (xs : List ℕ) → before_end (codes "EE") (xs ++ codes "EE") ≡ Some xs
before_end-append xs =
    let n = length-append xs (codes "EE") in
    let two : length (codes "EE") ≡ 2 = refl in
    let at : length (xs ++ codes "EE") - 2 ≡ length xs = omega arith in
    rw (at, drop-append_seam xs (codes "EE")) (ap Some (take-append_seam xs (codes "EE")))

strip_first-digits : (ds : List ℕ) → IsDigits ds → 0 < length ds → strip_first 45 ds ≡ ds
strip_first-digits [] digits some = refl
strip_first-digits (d ∷ ds) digits some =
    let differs : (d == 45) ≡ false = digit_is_not 45 d refl (digit_at (d ∷ ds) 0 digits some) in
    rw differs refl

-- without the last hyphen, then without the first
without_last : (first digits last : List ℕ) (n : ℕ) → WritesNumber 10 digits n → Hyphen last → strip_last 45 (first ++ digits ++ last) ≡ first ++ digits
without_last first digits _ n w hyphen = strip_last-end 45 (first ++ digits)
without_last first digits _ n w no_hyphen = rw (append-nil (first ++ digits)) (strip_last-digits 45 first digits refl w.digits w.some)

without_first : (first digits : List ℕ) (n : ℕ) → WritesNumber 10 digits n → Hyphen first → strip_first 45 (first ++ digits) ≡ digits
without_first _ digits n w hyphen = strip_first-front 45 digits
without_first _ digits n w no_hyphen = strip_first-digits digits w.digits w.some

pub serial_complete : (text : List ℕ) (s : SerialNumber) → IsSerialText text s → serial_of text ≡ Some s
unfolding serial_from
serial_complete text s g =
    let letter = 64 + s.letter in
    let body = before_end-append (g.first ++ g.digits ++ g.last) in
    let last = without_last g.first g.digits g.last s.number g.digits_is g.last_is in
    let first = without_first g.first g.digits s.number g.digits_is g.first_is in
    let back : letter - 64 ≡ s.letter = omega arith in
    let low : 65 ≤ letter = omega (arith, g.letter_low) in
    let high : letter ≤ 90 = omega (arith, g.letter_high) in
    rw (g.parts, le-leb 65 letter low, le-leb letter 90 high, body, last, first, number_of-writes 10 g.digits s.number g.digits_is, le-leb 1 s.number g.number_low, le-leb s.number 9999999999 g.number_high) (ap (λ l. Some (record { letter = l; number = s.number })) back)

-- a text that ends with these two bytes
ends : (xs : List ℕ) → pointwise nat_eq (codes "EE") xs ≡ true → xs ≡ codes "EE"
ends [] e = cc
ends (a ∷ []) e = absurd (false≢true (and_parts (69 == a) false e).1)
ends (a ∷ b ∷ []) e =
    let p = and_parts _ _ e in
    let q = and_parts _ _ p.1 in
    ap₂ (λ x y. x ∷ y ∷ []) (sym (eqb-true _ _ p.0)) (sym (eqb-true _ _ q.0))
ends (a ∷ b ∷ d ∷ rest) e = absurd (false≢true (and_parts (69 == b) false (and_parts (69 == a) ((69 == b) && false) e).1).1)

before_end-split : (text front : List ℕ) → before_end (codes "EE") text ≡ Some front → text ≡ front ++ codes "EE"
before_end-split text front e = elim (cases_Bool (ends_with nat_eq text (codes "EE"))) [
  | inl holds ↦
      let is : take (length text - 2) text ≡ front = same_Some _ _ (rw holds at e) in
      sym (take-append-drop (length text - 2) text) ∙ ap₂ (λ a b. a ++ b) is (ends (drop (length text - 2) text) holds)
  | inr fails ↦
      let none : None ≡ Some front = rw fails at e in
      absurd (none-some front none)
]

record HasLast (text : List ℕ) : Type 0 where
  last : List ℕ
  is : Hyphen last
  parts : text ≡ strip_last 45 text ++ last

last_of : (text : List ℕ) → HasLast text
last_of text = elim (cases_Bool (ends_with_byte 45 text)) [
  | inl holds ↦
      let p = and_parts _ _ holds in
      let some : 0 < length text = ltb-true _ _ p.0 in
      let last : get_or text (length text - 1) 0 ≡ 45 = eqb-true _ _ p.1 in
      record { last = 45 ∷ []; is = hyphen; parts = rw holds (split_last text some ∙ ap (λ b. take (length text - 1) text ++ b ∷ []) last) }
  | inr fails ↦ record { last = []; is = no_hyphen; parts = rw fails (sym (append-nil text)) }
]

record HasFirst (text : List ℕ) : Type 0 where
  first : List ℕ
  is : Hyphen first
  parts : text ≡ first ++ strip_first 45 text

first_of : (text : List ℕ) → HasFirst text
first_of [] = record { first = []; is = no_hyphen; parts = refl }
first_of (b ∷ bs) = elim (cases_Bool (b == 45)) [
  | inl holds ↦ record { first = 45 ∷ []; is = hyphen; parts = rw holds (ap (λ c. c ∷ bs) (eqb-true _ _ holds)) }
  | inr fails ↦ record { first = []; is = no_hyphen; parts = rw fails refl }
]

from_letter : (letter : ℕ) (rest : List ℕ) (s : SerialNumber) → serial_from letter rest ≡ Some s → IsSerialText (letter ∷ rest) s
unfolding serial_from
from_letter letter rest s e = option_and_then_some _ (in_range 65 90 letter) s e (λ l l_is a.
    option_and_then_some _ (before_end (codes "EE") rest) s a (λ body body_is b.
    option_and_then_some _ (number_of 10 (strip_first 45 (strip_last 45 body))) s b (λ n n_is d.
    option_and_then_some _ (in_range 1 9999999999 n) s d (λ m m_is f.
    let ll = in_range-is 65 90 letter l l_is in
    let mm = in_range-is 1 9999999999 n m m_is in
    let same = same_Some _ _ f in
    let is_letter : l - 64 ≡ s.letter = ap (λ (t : SerialNumber). t.letter) same in
    let is_number : m ≡ s.number = ap (λ (t : SerialNumber). t.number) same in
    let front = first_of (strip_last 45 body) in
    let end = last_of body in
    let whole : body ≡ front.first ++ strip_first 45 (strip_last 45 body) ++ end.last = end.parts ∙ ap (λ t. t ++ end.last) front.parts in
    let first_letter : letter ≡ 64 + s.letter = omega (arith, ll, is_letter) in
    record {
      first = front.first;
      digits = strip_first 45 (strip_last 45 body);
      last = end.last;
      parts = ap₂ (λ x y. x ∷ y) first_letter (before_end-split rest body body_is ∙ ap (λ t. t ++ codes "EE") whole);
      first_is = front.is;
      digits_is = number_of-only 10 (strip_first 45 (strip_last 45 body)) s.number (n_is ∙ ap Some (mm.0 ∙ is_number));
      last_is = end.is;
      letter_low = omega (arith, ll, is_letter);
      letter_high = omega (arith, ll, is_letter);
      number_low = omega (arith, mm, is_number);
      number_high = omega (arith, mm, is_number);
    }))))

pub serial_sound : (text : List ℕ) (s : SerialNumber) → serial_of text ≡ Some s → IsSerialText text s
serial_sound [] s e = absurd (none-some s e)
serial_sound (letter ∷ rest) s e = from_letter letter rest s e
