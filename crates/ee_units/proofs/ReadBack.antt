-- Each printed text is one of the grammar, so it reads back.
use Rattle.std.proofs.Common.{◌≡◌, ℕ, ◌<◌, ◌≤◌, ◌+◌, ◌/◌, ◌%◌, ◌^◌, true, [], ◌∷◌, length, Some, refl, arith, lit<, lit≤, append_assoc, pos}
use Rattle.std.specs.Char.{is_ascii_digit}
use Rattle.std.specs.List.{list_all}
use Rattle.std.specs.Fmt.{decimal}
use Rattle.std.proofs.lemmas.Bool.{le-leb}
use Rattle.std.proofs.lemmas.List.{append-nil}
use Rattle.std.proofs.lemmas.Fmt.{decimal_digit, decimal_step, digits_value-decimal, digits_decimal, length-decimal-le, decimal_nonempty}
use Rattle.std.proofs.lemmas.Int.Digits.{digits_value_push}
use Rattle.std.proofs.lemmas.Str.{digit_value_digit}
use Rattle.jiff_core.proofs.CalendarLemmas.{days_in_month_bounds}
use Rattle.ee_units.specs.Calendar.{year_of, month_of_year, month_of_day, day_of_month}
use Rattle.ee_units.specs.Spelling.{month_of, issue_of, day_of, rate_of, customer_of, SerialNumber, serial_of}
use Rattle.ee_units.specs.Texts.{two_digits, decimal_text, rate_text, month_text, day_text, serial_text}
use Rattle.ee_units.specs.Grammar.{WritesNumber, WritesDigits, hundredths, percent, year_first, no_hyphen}
use Rattle.ee_units.proofs.MonthOfDay.{date_of_day, month_bound, is_date-date}
use Rattle.ee_units.proofs.Numbers.{own}
use Rattle.ee_units.proofs.Parts.{number_of-writes}
use Rattle.ee_units.proofs.RateGrammar.{complete}
use Rattle.ee_units.proofs.MonthGrammar.{month_complete}
use Rattle.ee_units.proofs.DayGrammar.{day_complete}
use Rattle.ee_units.proofs.SerialGrammar.{serial_complete}

two_number : (n : ℕ) → n < 100 → WritesNumber 2 (two_digits n) n
two_number n small =
    let a = 48 + n / 10 in
    let b = 48 + n % 10 in
    let la : 48 ≤ a = omega arith in
    let ha : a ≤ 57 = omega arith in
    let lb : 48 ≤ b = omega arith in
    let hb : b ≤ 57 = omega arith in
    let digits : list_all is_ascii_digit (a ∷ b ∷ []) ≡ true = rw (le-leb 48 a la, le-leb a 57 ha, le-leb 48 b lb, le-leb b 57 hb) refl in
    record {
      some = lit≤ tt;
      few = lit≤ tt;
      digits = digits;
      value = omega (arith, digits_value_push 10 (a ∷ []) b, digits_value_push 10 [] a, digit_value_digit a (la, ha), digit_value_digit b (lb, hb));
    }

pub two_fits : (n : ℕ) → n < 100 → WritesDigits 2 (two_digits n) n
two_fits n small = record { long = refl; writes = two_number n small }

-- a number without leading zeros
whole_number : (most n : ℕ) → 0 < most → n < 10 ^ most → n < 2 ^ 64 → WritesNumber most (decimal n) n
whole_number most n some small fits = record {
  some = decimal_nonempty n fits;
  few = length-decimal-le most n some small fits;
  digits = digits_decimal own n fits;
  value = digits_value-decimal own n fits;
}

four_long : (n : ℕ) → 1000 ≤ n → n < 10000 → length (decimal n) ≡ 4
four_long n low high =
    let wide : 10000 < 2 ^ 64 = lit< tt in
    rw (decimal_step n (omega arith) (omega arith), decimal_step (n / 10) (omega arith) (omega arith), decimal_step (n / 10 / 10) (omega arith) (omega arith), decimal_digit (n / 10 / 10 / 10) (omega arith)) refl

year_fits : (m : ℕ) → m ≤ 2335 → WritesDigits 4 (decimal (year_of m)) (year_of m)
year_fits m few =
    let wide : 10000 < 2 ^ 64 = lit< tt in
    record {
      long = four_long (year_of m) (omega arith) (omega arith);
      writes = whole_number 4 (year_of m) (omega arith) (omega arith) (omega arith);
    }

pub rate_back : (r : ℕ) → r ≤ 2000 → rate_of (rate_text r) ≡ Some r
unfolding rate_text decimal_text
rate_back r few =
    let wide : 100 < 2 ^ 64 = lit< tt in
    complete (rate_text r) r (record {
      whole = decimal (r / 100);
      fraction = 46 ∷ two_digits (r % 100);
      sign = 37 ∷ [];
      percents = r / 100;
      part = r % 100;
      parts = refl;
      whole_is = whole_number 2 (r / 100) (omega arith) (omega arith) (omega arith);
      fraction_is = hundredths (two_digits (r % 100)) (r % 100) refl (two_number (r % 100) (omega arith));
      sign_is = percent;
      value = omega arith;
      range = few;
    })

pub month_back : (m : ℕ) → m ≤ 2335 → month_of (month_text m) ≡ Some m
unfolding month_text
month_back m few = month_complete (month_text m) m (record {
  year = year_of m;
  month = month_of_year m;
  written = year_first (decimal (year_of m)) (two_digits (month_of_year m)) (year_of m) (month_of_year m) (year_fits m few) (two_fits (month_of_year m) (omega arith));
  first = omega arith;
  last = omega arith;
  range = omega arith;
  value = omega arith;
})

pub issue_back : (m : ℕ) → m ≤ 1135 → issue_of (month_text m) ≡ Some m
unfolding issue_of
issue_back m few = rw (month_back m (omega arith), le-leb 0 m (omega arith), le-leb m 1135 few) refl

pub day_back : (n : ℕ) → 12904 ≤ n → n ≤ 84005 → day_of (day_text n) ≡ Some n
unfolding day_text month_text
day_back n low high =
    let m = month_of_day n in
    let few : m ≤ 2335 = month_bound n high in
    let at = date_of_day n low high in
    let fits : month_of_year m < 100 = omega arith in
    day_complete (day_text n) n (record {
      ys = decimal (year_of m);
      ms = two_digits (month_of_year m);
      ds = two_digits (day_of_month n);
      year = year_of m;
      month = month_of_year m;
      day = day_of_month n;
      parts = append_assoc (decimal (year_of m)) (45 ∷ two_digits (month_of_year m)) (45 ∷ two_digits (day_of_month n));
      year_is = year_fits m few;
      month_is = two_fits (month_of_year m) fits;
      day_is = two_fits (day_of_month n) (omega (arith, at.date.2.1, days_in_month_bounds (pos (year_of m)) (month_of_year m)));
      date = is_date-date (year_of m) (month_of_year m) (day_of_month n) at.date;
      value = at.same;
      low = low;
      high = high;
    })

pub customer_back : (n : ℕ) → 1 ≤ n → n ≤ 999999999 → customer_of (decimal n) ≡ Some n
unfolding customer_of
customer_back n low high =
    let wide : 1000000000 < 2 ^ 64 = lit< tt in
    rw (number_of-writes 9 (decimal n) n (whole_number 9 n (omega arith) (omega arith) (omega arith)), le-leb 1 n low, le-leb n 999999999 high) refl

pub serial_back : (s : SerialNumber) → 1 ≤ s.letter → s.letter ≤ 26 → 1 ≤ s.number → s.number ≤ 9999999999 → serial_of (serial_text s) ≡ Some s
unfolding serial_text
serial_back s la lb na nb =
    let wide : 10000000000 < 2 ^ 64 = lit< tt in
    serial_complete (serial_text s) s (record {
      first = [];
      digits = decimal s.number;
      last = [];
      parts = rw (append-nil (decimal s.number)) refl;
      first_is = no_hyphen;
      digits_is = whole_number 10 s.number (omega arith) (omega arith) (omega arith);
      last_is = no_hyphen;
      letter_low = la;
      letter_high = lb;
      number_low = na;
      number_high = nb;
    })
