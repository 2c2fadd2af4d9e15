-- Genuine paper that this counter doesn't pay (this project's rule): savings bonds of other series than EE, and those of before May 2005.
use Rattle.std.specs.Prelude.{List, [], ◌∷◌, ℕ, ◌+◌, ◌*◌, ◌-◌, ◌==◌, ◌&&◌, ◌||◌, Bool, false, not, nat_eq, nat_le, nat_lt, length, take, Option, Some, None, codes, option_and_then, unwrap_or, if◌then◌else◌}
use Rattle.std.specs.Char.{is_ascii_digit, is_ascii_uppercase}
use Rattle.std.specs.List.{ends_with, list_all}
use Rattle.ee_units.specs.Spelling.{digits_of, parts_at}
use Rattle.ee_files.specs.declared.columns.FileColumn.{FileColumn}
use Rattle.ee_files.specs.declared.columns.FileColumn.TheVariants as column
use Rattle.ee_cli_program.specs.declared.unpaid.Unpaid.{Unpaid}
use Rattle.ee_cli_program.specs.declared.unpaid.Unpaid.TheVariants.{Series, Early}

abbrev pub unpaid_text : Unpaid → List ℕ
unpaid_text Series = codes "a bond of another series than EE"
unpaid_text Early = codes "a bond of before May 2005"

-- a digit or a hyphen
abbrev pub is_serial_sign : ℕ → Bool
is_serial_sign byte = is_ascii_digit byte || byte == 45

-- a letter, and the digits of a serial number
abbrev pub is_lettered : List ℕ → Bool
is_lettered [] = false
is_lettered (letter ∷ rest) = is_ascii_uppercase letter && (not (length rest == 0) && list_all is_serial_sign rest)

-- a serial number of this series
abbrev pub is_of : List ℕ → List ℕ → Bool
is_of series text = ends_with nat_eq text series && is_lettered (take (length text - length series) text)

abbrev pub is_of_other_series : List ℕ → Bool
is_of_other_series text = is_of (codes "E") text || (is_of (codes "F") text || (is_of (codes "G") text || (is_of (codes "H") text
    || (is_of (codes "HH") text || (is_of (codes "I") text || (is_of (codes "J") text || is_of (codes "K") text))))))

-- a month of this year is before May 2005
abbrev pub is_early : ℕ → ℕ → Bool
is_early year month = (nat_le 1 month && nat_le month 12) && (nat_le year 2005 && nat_lt (12 * year + month) 24065)

infixl 10 ◌>>=◌
abbrev pub ◌>>=◌ : {A B : Type 0} → Option A → (A → Option B) → Option B
o >>= f = option_and_then f o

abbrev pub early_from : Option (List ℕ × List ℕ) → Option (List ℕ × List ℕ) → Option Bool
early_from (Some p) slash = do
  year ← digits_of 4 p.0
  month ← digits_of 2 p.1
  Some (is_early year month)
early_from None (Some p) = do
  month ← digits_of 2 p.0
  year ← digits_of 4 p.1
  Some (is_early year month)
early_from None None = None

-- whether a month as YYYY-MM or MM/YYYY is before May 2005
unfoldable pub early_of : List ℕ → Option Bool
early_of text = early_from (parts_at 45 text) (parts_at 47 text)

-- why a bond with this field isn't paid here
abbrev pub unpaid_in : FileColumn → List ℕ → Option Unpaid
unpaid_in column.Serial field = if is_of_other_series field then Some Series else None
unpaid_in column.Issued field = if unwrap_or (early_of field) false then Some Early else None
unpaid_in _ field = None
