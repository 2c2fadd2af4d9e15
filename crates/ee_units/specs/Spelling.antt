-- How values are spelled (this project's rule). Each function returns the value that a text spells, or None.
use Rattle.std.specs.Prelude.{ℕ, ◌+◌, ◌*◌, ◌-◌, ◌==◌, ◌&&◌, Bool, List, [], ◌∷◌, length, nat_le, nat_lt, if◌then◌else◌, Option, Some, None, option_and_then, take, nat_eq, codes, pos}
use Rattle.std.specs.Char.{is_ascii_digit}
use Rattle.std.specs.Str.Parse.{digits_value}
use Rattle.std.specs.List.{before_first, after_first, list_all, position_or_len, ends_with}
use Rattle.std.specs.Io.BufRead.{strip_last}
use Rattle.jiff_core.specs.Calendar.{days_from_civil}
use Rattle.ee_units.specs.Calendar.{is_date, day_in_range}
use Rattle.ee_units.specs.Limits.{highest_customer, highest_rate, highest_serial, latest_issue_month}

infixl 10 ◌>>=◌
abbrev pub ◌>>=◌ : {A B : Type 0} → Option A → (A → Option B) → Option B
o >>= f = option_and_then f o

-- the text has 1 to `most` digits and nothing else
unfoldable pub is_number : ℕ → List ℕ → Bool
is_number most ds = nat_le 1 (length ds) && (nat_le (length ds) most && list_all is_ascii_digit ds)

-- the value of 1 to `most` digits
unfoldable pub number_of : ℕ → List ℕ → Option ℕ
number_of most ds = if is_number most ds then Some (digits_value 10 ds) else None

-- the value, if it is in the range
abbrev pub in_range : ℕ → ℕ → ℕ → Option ℕ
in_range low high n = if nat_le low n && nat_le n high then Some n else None

-- the parts before and after the first byte c
unfoldable pub parts_at : ℕ → List ℕ → Option (List ℕ × List ℕ)
parts_at c ds = if nat_lt (position_or_len (λ b. b == c) ds) (length ds)
    then Some (before_first (λ b. b == c) ds, after_first (λ b. b == c) ds) else None

-- after the point one digit means tenths, two mean hundredths
unfoldable pub hundredths_of : List ℕ → Option ℕ
hundredths_of ds = number_of 2 ds >>= λ n. Some (if length ds == 1 then 10 * n else n)

abbrev pub decimal_from : List ℕ → Option (List ℕ × List ℕ) → Option ℕ
decimal_from ds None = number_of 2 ds >>= λ whole. Some (100 * whole)
decimal_from ds (Some parts) = do
  whole ← number_of 2 parts.0
  part ← hundredths_of parts.1
  Some (100 * whole + part)

-- a decimal number with at most two decimal places, in hundredths
unfoldable pub decimal_of : List ℕ → Option ℕ
decimal_of ds = decimal_from ds (parts_at 46 ds)

-- a rate is a decimal number, optionally followed by a percent sign
unfoldable pub rate_of : List ℕ → Option ℕ
rate_of text = decimal_of (strip_last 37 text) >>= in_range 0 highest_rate

-- a month as its count from 2005-05
unfoldable pub month_at : ℕ → ℕ → Option ℕ
month_at year month = do
  m ← in_range 1 12 month
  y ← in_range 2005 2199 year
  if nat_le 24065 (12 * y + m) then Some (12 * y + m - 24065) else None

-- the value of exactly `count` digits
unfoldable pub digits_of : ℕ → List ℕ → Option ℕ
digits_of count ds = if length ds == count then number_of count ds else None

abbrev pub month_from : Option (List ℕ × List ℕ) → Option (List ℕ × List ℕ) → Option ℕ
month_from (Some p) slash = do
  year ← digits_of 4 p.0
  month ← digits_of 2 p.1
  month_at year month
month_from None (Some p) = do
  month ← digits_of 2 p.0
  year ← digits_of 4 p.1
  month_at year month
month_from None None = None

-- a month is YYYY-MM or MM/YYYY
unfoldable pub month_of : List ℕ → Option ℕ
month_of text = month_from (parts_at 45 text) (parts_at 47 text)

-- the text without the byte c at its front, if it has one
abbrev pub strip_first : ℕ → List ℕ → List ℕ
strip_first c [] = []
strip_first c (b ∷ bs) = if b == c then bs else b ∷ bs

-- the text without these bytes at its end; None if it doesn't end with them
abbrev pub before_end : List ℕ → List ℕ → Option (List ℕ)
before_end end text = if ends_with nat_eq text end then Some (take (length text - length end) text) else None

-- a serial number: its letter, 1 for A to 26 for Z, and its number
pub record SerialNumber : Type 0 where
  pub letter : ℕ
  pub number : ℕ

-- the serial number of a letter, 1 to 26, and a number
unfoldable pub serial_at : ℕ → ℕ → Option SerialNumber
serial_at letter number = do
  l ← in_range 1 26 letter
  n ← in_range 1 highest_serial number
  Some (record { letter = l; number = n })

unfoldable pub serial_from : ℕ → List ℕ → Option SerialNumber
serial_from letter rest = do
  l ← in_range 65 90 letter
  body ← before_end (codes "EE") rest
  n ← number_of 10 (strip_first 45 (strip_last 45 body))
  m ← in_range 1 highest_serial n
  Some (record { letter = l - 64; number = m })

-- a serial is a letter, optionally a hyphen, digits, optionally a hyphen, and EE
abbrev pub serial_of : List ℕ → Option SerialNumber
serial_of [] = None
serial_of (letter ∷ rest) = serial_from letter rest

-- a customer is a number of at most nine digits
unfoldable pub customer_of : List ℕ → Option ℕ
customer_of text = number_of 9 text >>= in_range 1 highest_customer

-- an issue month is at most 2099-12
unfoldable pub issue_of : List ℕ → Option ℕ
issue_of text = month_of text >>= in_range 0 latest_issue_month

-- a date as its count of days from 1970-01-01
unfoldable pub day_at : ℕ → ℕ → ℕ → Option ℕ
day_at year month day = if is_date year month day then day_in_range (days_from_civil (pos year) month day) else None

-- a day is YYYY-MM-DD
unfoldable pub day_of : List ℕ → Option ℕ
day_of text = do
  parts ← parts_at 45 text
  rest ← parts_at 45 (parts.1)
  year ← digits_of 4 (parts.0)
  month ← digits_of 2 (rest.0)
  day ← digits_of 2 (rest.1)
  day_at year month day
