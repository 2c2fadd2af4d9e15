-- Lemmas that the crates above may cite.
use Rattle.std.proofs.Common.{List, Result, Some, false, true, ℕ, ◌++◌, ◌<◌, ◌^◌, ◌∷◌, ◌≡◌, ◌≤◌}
use Rattle.std.specs.Char.{is_ascii_digit}
use Rattle.std.specs.Fmt.{decimal}
use Rattle.std.specs.Result.{result_ok}
use Rattle.std.specs.Str.Parse.{ParsesUnsigned, digits_value}
use Rattle.std.proofs.lemmas.Str.Parse.{IsNumeralModel}
use Rattle.ee_units.specs.Denoms.{denom_of, denom_with, dollars}
use Rattle.ee_units.specs.Grammar.{IsDayText, WritesDigits, WritesNumber}
use Rattle.ee_units.specs.Spelling.{SerialNumber, customer_of, day_of, digits_of, in_range, is_number, issue_of, number_of, parts_at, rate_of, serial_of}
use Rattle.ee_units.specs.Texts.{day_text, month_text, rate_text, serial_text, two_digits}
use Rattle.ee_units.specs.declared.denoms.Denom.{Denom}
use Rattle.ee_units.proofs.DayGrammar
use Rattle.ee_units.proofs.DenomTexts
use Rattle.ee_units.proofs.MonthGrammar
use Rattle.ee_units.proofs.Numbers
use Rattle.ee_units.proofs.Parts
use Rattle.ee_units.proofs.RateGrammar
use Rattle.ee_units.proofs.ReadBack
pub use Rattle.ee_units.proofs.Numbers.{IsDigits}

-- ---- digits and numbers
-- texts of digits are numerals with those values
pub digits_are_numerals : IsNumeralModel IsDigits (digits_value 10)
digits_are_numerals = Numbers.own

-- if the text has at most 18 digits, `parse` returns its number
pub parse_gives_number : {E : Type 0} (most : ℕ) (bs : List ℕ) (r : Result ℕ E) → ParsesUnsigned 64 10 bs r → is_number most bs ≡ true → most < 19
    → result_ok r ≡ number_of most bs
parse_gives_number = Numbers.parsed

-- `digits_of` reads the number that `count` digits write
pub digits_of-writes : (count : ℕ) (ds : List ℕ) (n : ℕ) → WritesDigits count ds n → digits_of count ds ≡ Some n
digits_of-writes = MonthGrammar.digits_of-writes

-- `number_of` reads the number that at most `most` digits write
pub number_of-writes : (most : ℕ) (ds : List ℕ) (n : ℕ) → WritesNumber most ds n → number_of most ds ≡ Some n
number_of-writes = Parts.number_of-writes

-- if digits, a separator and another text are joined, `parts_at` splits them at the separator
pub parts_at-joined : (c : ℕ) (xs ys : List ℕ) → is_ascii_digit c ≡ false → IsDigits xs → parts_at c (xs ++ c ∷ ys) ≡ Some (xs, ys)
parts_at-joined = Parts.parts_at-joined

-- a number that `in_range` returns is the number given, and is in the range
pub in_range-is : (low high x r : ℕ) → in_range low high x ≡ Some r → (x ≡ r) × ((low ≤ r) × (r ≤ high))
in_range-is = RateGrammar.in_range-is

-- ---- each printed text reads back
-- `rate_of` reads the text of a rate as that rate
pub rate_back : (r : ℕ) → r ≤ 2000 → rate_of (rate_text r) ≡ Some r
rate_back = ReadBack.rate_back

-- `issue_of` reads the text of an issue month as that month
pub issue_back : (m : ℕ) → m ≤ 1135 → issue_of (month_text m) ≡ Some m
issue_back = ReadBack.issue_back

-- `day_of` reads the text of a day as that day
pub day_back : (n : ℕ) → 12904 ≤ n → n ≤ 84005 → day_of (day_text n) ≡ Some n
day_back = ReadBack.day_back

-- `serial_of` reads the text of a serial number as that serial number
pub serial_back : (s : SerialNumber) → 1 ≤ s.letter → s.letter ≤ 26 → 1 ≤ s.number → s.number ≤ 9999999999 → serial_of (serial_text s) ≡ Some s
serial_back = ReadBack.serial_back

-- `customer_of` reads the text of a customer as that customer
pub customer_back : (n : ℕ) → 1 ≤ n → n ≤ 999999999 → customer_of (decimal n) ≡ Some n
customer_back = ReadBack.customer_back

-- `denom_of` reads a denomination's dollars as that denomination
pub denom_back : (d : Denom) → denom_of (decimal (dollars d)) ≡ Some d
denom_back = DenomTexts.denom_back

-- `denom_with` finds the denomination of its dollars
pub denom_with-dollars : (d : Denom) → denom_with (dollars d) ≡ Some d
denom_with-dollars = DenomTexts.denom_with-dollars

-- denominations with equal dollars are equal
pub same_denom : (a b : Denom) → dollars a ≡ dollars b → a ≡ b
same_denom = DenomTexts.same_denom

-- a denomination's dollars fit 64 bits
pub dollars_small : (d : Denom) → dollars d < 2 ^ 64
dollars_small = DenomTexts.dollars_small

-- `in_range` returns a number that is in the range
pub in_range_back : (low high n : ℕ) → low ≤ n → n ≤ high → in_range low high n ≡ Some n
in_range_back = Numbers.in_range_back

-- two digits write a number below 100
pub two_digits-write : (n : ℕ) → n < 100 → WritesDigits 2 (two_digits n) n
two_digits-write = ReadBack.two_fits

-- a text that `day_of` reads as a day writes that day
pub day_of-sound : (text : List ℕ) (n : ℕ) → day_of text ≡ Some n → IsDayText text n
day_of-sound = DayGrammar.day_sound
