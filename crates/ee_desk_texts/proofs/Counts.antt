-- Whole numbers, as their digits are read.
use Rattle.std.proofs.Common.{◌≡◌, ℕ, ◌<◌, ◌≤◌, ◌^◌, Bool, true, false, List, length, Result, Ok, Err, Some, decimal, refl, ap, arith, lt-ltb, le-leb}
use Rattle.std.specs.Prelude.{nat_lt, nat_le, OkIff}
use Rattle.std.specs.Char.{is_ascii_digit}
use Rattle.std.specs.List.{list_all}
use Rattle.std.specs.Result.{result_ok}
use Rattle.std.specs.Str.Parse.{ParsesUnsigned, digits_value}
use Rattle.std.proofs.lemmas.Str.Parse.{parse_digits}
use Rattle.std.proofs.lemmas.Bool.{and_parts, ltb-true, leb-true}
use Rattle.std.proofs.lemmas.Fmt.{decimal_is_IsNumeral}
use Rattle.ee_units.proofs.Lemmas.{digits_are_numerals}
use Rattle.ee_desk_texts.specs.Inner.Reading.{is_whole, count_of}

-- a number below 2^64 is read from its digits
pub count_back : (n : ℕ) → n < 2 ^ 64 → count_of (decimal n) ≡ Some n
unfolding count_of is_whole
count_back n small =
    let numeral = decimal_is_IsNumeral n small in
    let digits : list_all is_ascii_digit (decimal n) ≡ true = digits_are_numerals.from (decimal n) numeral.0.1 in
    let some : 1 ≤ length (decimal n) = omega (arith, numeral.0.0) in
    rw (le-leb 1 (length (decimal n)) some, digits, numeral.1, lt-ltb n (2 ^ 64) small) refl

-- what `parse` answers of digits is the number, if it is below 2^64
pub count_parsed : {E : Type 0} (text : List ℕ) (r : Result ℕ E) → ParsesUnsigned 64 10 text r → is_whole text ≡ true → result_ok r ≡ count_of text
unfolding count_of is_whole
count_parsed {E} text r h whole = by_fit (nat_lt (digits_value 10 text) (2 ^ 64)) refl r (parse_digits digits_are_numerals 64 text r h digits)
  where
    enough : nat_le 1 (length text) ≡ true
    enough = (and_parts (nat_le 1 (length text)) (list_all is_ascii_digit text) whole).0

    digits : list_all is_ascii_digit text ≡ true
    digits = (and_parts (nat_le 1 (length text)) (list_all is_ascii_digit text) whole).1

    some : 1 ≤ length text
    some = leb-true 1 (length text) enough

    by_fit : (fits : Bool) → nat_lt (digits_value 10 text) (2 ^ 64) ≡ fits → (q : Result ℕ E) → OkIff q ((0 < length text) × (digits_value 10 text < 2 ^ 64)) (digits_value 10 text) → result_ok q ≡ count_of text
    by_fit true is (Ok x) p = rw (enough, digits, is) (ap Some p.1)
    by_fit true is (Err e) p = absurd (p (omega (arith, some), ltb-true _ _ is))
    by_fit false is (Ok x) p = absurd (let e : nat_lt (digits_value 10 text) (2 ^ 64) ≡ true = lt-ltb _ _ p.0.1 in cc)
    by_fit false is (Err e) p = rw (enough, digits, is) refl
