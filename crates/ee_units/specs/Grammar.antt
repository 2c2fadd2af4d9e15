-- The accepted spellings, as a grammar: which text writes which value (this project's rule).
use Rattle.std.specs.Prelude.{◌≡◌, ℕ, ◌+◌, ◌*◌, ◌≤◌, true, List, [], ◌∷◌, ◌++◌, length, codes, pos}
use Rattle.std.specs.Char.{is_ascii_digit}
use Rattle.std.specs.List.{list_all}
use Rattle.std.specs.Str.Parse.{digits_value}
use Rattle.jiff_core.specs.Calendar.{days_from_civil}
use Rattle.ee_units.specs.Calendar.{is_date}
use Rattle.ee_units.specs.Spelling.{SerialNumber}
use Rattle.ee_units.specs.Limits.{earliest_day, highest_rate, highest_serial, latest_day}

-- 1 to `most` digits that write n
pub record WritesNumber (most : ℕ) (ds : List ℕ) (n : ℕ) : Type 0 where
  pub some : 1 ≤ length ds
  pub few : length ds ≤ most
  pub digits : list_all is_ascii_digit ds ≡ true
  pub value : digits_value 10 ds ≡ n

-- nothing, or a point and one or two digits that write n hundredths
pub data Fraction : List ℕ → ℕ → Type 0 where
  no_fraction : Fraction [] 0
  tenths : (ds : List ℕ) (n : ℕ) (one : length ds ≡ 1) (writes : WritesNumber 2 ds n) → Fraction (46 ∷ ds) (10 * n)
  hundredths : (ds : List ℕ) (n : ℕ) (two : length ds ≡ 2) (writes : WritesNumber 2 ds n) → Fraction (46 ∷ ds) n

-- nothing, or a percent sign
pub data Sign : List ℕ → Type 0 where
  no_sign : Sign []
  percent : Sign (37 ∷ [])

-- digits, optionally a fraction, optionally a percent sign: the text writes r hundredths of a percent
pub record IsRateText (text : List ℕ) (r : ℕ) : Type 0 where
  pub whole : List ℕ
  pub fraction : List ℕ
  pub sign : List ℕ
  pub percents : ℕ
  pub part : ℕ
  pub parts : text ≡ whole ++ fraction ++ sign
  pub whole_is : WritesNumber 2 whole percents
  pub fraction_is : Fraction fraction part
  pub sign_is : Sign sign
  pub value : r ≡ 100 * percents + part
  pub range : r ≤ highest_rate

-- exactly `count` digits that write n
pub record WritesDigits (count : ℕ) (ds : List ℕ) (n : ℕ) : Type 0 where
  pub long : length ds ≡ count
  pub writes : WritesNumber count ds n

-- YYYY-MM or MM/YYYY
pub data WritesMonth : List ℕ → ℕ → ℕ → Type 0 where
  year_first : (ys ms : List ℕ) (year month : ℕ) (year_is : WritesDigits 4 ys year) (month_is : WritesDigits 2 ms month) → WritesMonth (ys ++ 45 ∷ ms) year month
  month_first : (ys ms : List ℕ) (year month : ℕ) (year_is : WritesDigits 4 ys year) (month_is : WritesDigits 2 ms month) → WritesMonth (ms ++ 47 ∷ ys) year month

-- the text writes a month n months after May 2005, in a year up to 2199
pub record IsMonthText (text : List ℕ) (n : ℕ) : Type 0 where
  pub year : ℕ
  pub month : ℕ
  pub written : WritesMonth text year month
  pub first : 1 ≤ month
  pub last : month ≤ 12
  pub range : year ≤ 2199
  pub value : 12 * year + month ≡ 12 * 2005 + 5 + n

-- the text is YYYY-MM-DD and writes a date of the calendar, n days after 1970-01-01, in range
pub record IsDayText (text : List ℕ) (n : ℕ) : Type 0 where
  pub ys : List ℕ
  pub ms : List ℕ
  pub ds : List ℕ
  pub year : ℕ
  pub month : ℕ
  pub day : ℕ
  pub parts : text ≡ ys ++ 45 ∷ (ms ++ 45 ∷ ds)
  pub year_is : WritesDigits 4 ys year
  pub month_is : WritesDigits 2 ms month
  pub day_is : WritesDigits 2 ds day
  pub date : is_date year month day ≡ true
  pub value : days_from_civil (pos year) month day ≡ pos n
  pub low : earliest_day ≤ n
  pub high : n ≤ latest_day

-- nothing, or a hyphen
pub data Hyphen : List ℕ → Type 0 where
  no_hyphen : Hyphen []
  hyphen : Hyphen (45 ∷ [])

-- the text is a letter A to Z, optionally a hyphen, one to ten digits, optionally a hyphen, and EE
pub record IsSerialText (text : List ℕ) (s : SerialNumber) : Type 0 where
  pub first : List ℕ
  pub digits : List ℕ
  pub last : List ℕ
  pub parts : text ≡ (64 + s.letter) ∷ (first ++ digits ++ last ++ codes "EE")
  pub first_is : Hyphen first
  pub digits_is : WritesNumber 10 digits s.number
  pub last_is : Hyphen last
  pub letter_low : 1 ≤ s.letter
  pub letter_high : s.letter ≤ 26
  pub number_low : 1 ≤ s.number
  pub number_high : s.number ≤ highest_serial
