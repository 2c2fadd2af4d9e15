-- How values are printed (this project's rule).
use Rattle.std.specs.Prelude.{ℕ, ◌+◌, ◌/◌, ◌%◌, List, [], ◌∷◌, ◌++◌, codes}
use Rattle.std.specs.Fmt.{decimal}
use Rattle.ee_units.specs.Spelling.{SerialNumber}
use Rattle.ee_units.specs.Calendar.{year_of, month_of_year, month_of_day, day_of_month}

-- a number below 100, as two digits
abbrev pub two_digits : ℕ → List ℕ
two_digits n = (48 + n / 10) ∷ (48 + n % 10) ∷ []

-- hundredths as a decimal number with two decimal places
unfoldable pub decimal_text : ℕ → List ℕ
decimal_text n = decimal (n / 100) ++ 46 ∷ two_digits (n % 100)

unfoldable pub rate_text : ℕ → List ℕ
rate_text r = decimal_text r ++ 37 ∷ []

-- YYYY-MM
unfoldable pub month_text : ℕ → List ℕ
month_text m = decimal (year_of m) ++ 45 ∷ two_digits (month_of_year m)

-- MM/YYYY
unfoldable pub sheet_month_text : ℕ → List ℕ
sheet_month_text m = two_digits (month_of_year m) ++ 47 ∷ decimal (year_of m)

-- YYYY-MM-DD
unfoldable pub day_text : ℕ → List ℕ
day_text n = month_text (month_of_day n) ++ 45 ∷ two_digits (day_of_month n)

-- letter, number without leading zeros, EE
unfoldable pub serial_text : SerialNumber → List ℕ
serial_text s = (64 + s.letter) ∷ decimal s.number ++ codes "EE"
