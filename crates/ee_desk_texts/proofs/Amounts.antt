-- Amounts, denominations and numbers in a range are read as what they were.
use Rattle.std.proofs.Common.{◌≡◌, ℕ, ◌+◌, ◌-◌, ◌*◌, ◌<◌, ◌≤◌, ◌/◌, ◌%◌, ◌^◌, Some, refl, arith, lit<}
use Rattle.std.specs.Fmt.{decimal}
use Rattle.std.proofs.lemmas.Fmt.{digits_value-decimal, digits_decimal, length-decimal-le, decimal_nonempty}
use Rattle.ee_units.specs.Texts.{two_digits, decimal_text}
use Rattle.ee_units.specs.Grammar.{WritesNumber}
use Rattle.ee_units.proofs.Lemmas.{digits_are_numerals, number_of-writes, parts_at-joined, digits_of-writes, in_range_back, two_digits-write}
use Rattle.ee_desk_texts.specs.Inner.Reading.{cents_of}

dollars_fit : (n : ℕ) → n < 10 ^ 18 → WritesNumber 18 (decimal n) n
dollars_fit n small =
    let wide : 10 ^ 18 < 2 ^ 64 = lit< tt in
    let fits : n < 2 ^ 64 = omega (arith, wide, small) in
    let some : 0 < 18 = lit< tt in
    record {
      some = decimal_nonempty n fits;
      few = length-decimal-le 18 n some small fits;
      digits = digits_decimal digits_are_numerals n fits;
      value = digits_value-decimal digits_are_numerals n fits;
    }

pub cents_back : (n : ℕ) → n < 2 ^ 64 → cents_of (decimal_text n) ≡ Some n
unfolding cents_of decimal_text
cents_back n fits =
    let whole : n / 100 < 10 ^ 18 = omega (arith, fits) in
    let w = dollars_fit (n / 100) whole in
    let part : n % 100 < 100 = omega arith in
    let value : 100 * (n / 100) + n % 100 ≡ n = omega arith in
    let top : n ≤ 2 ^ 64 - 1 = omega (arith, fits) in
    rw (parts_at-joined 46 (decimal (n / 100)) (two_digits (n % 100)) refl w.digits, number_of-writes 18 (decimal (n / 100)) (n / 100) w, digits_of-writes 2 (two_digits (n % 100)) (n % 100) (two_digits-write (n % 100) part), value)
    (in_range_back 0 (2 ^ 64 - 1) n (omega arith) top)
