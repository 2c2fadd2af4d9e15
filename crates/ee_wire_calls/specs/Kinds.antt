-- The value that a JSON value or a part of a path represents, by kind (this project's rule).
use Rattle.std.specs.Prelude.{ℕ, ◌&&◌, nat_le, if◌then◌else◌, List, length, Option, None, option_and_then}
use Rattle.std.specs.Char.{is_ascii_digit}
use Rattle.std.specs.List.{list_all}
use Rattle.std.specs.Str.Parse.{digits_value}
use Rattle.serde_json.specs.Data.{Data}
use Rattle.serde_json.specs.Find.{as_number, as_str, as_u64}
use Rattle.ee_units.specs.Spelling.{SerialNumber, in_range, rate_of, issue_of, day_of, serial_of}
use Rattle.ee_units.specs.declared.denoms.Denom.{Denom}
use Rattle.ee_units.specs.Denoms.{denom_with}
use Rattle.ee_desk_model.specs.Limits.{highest_number}
use Rattle.ee_units.specs.Limits.{highest_customer}

-- ---- a part of a path

-- 1 to 19 digits, from 1 to 2^63 - 1
abbrev pub number_text : List ℕ → Option ℕ
number_text text =
    if nat_le (length text) 19 && list_all is_ascii_digit text then in_range 1 highest_number (digits_value 10 text) else None

-- ---- JSON

-- a number without a point or an exponent, from 0 to 2^64 - 1
abbrev pub whole_number : Data → Option ℕ
whole_number d = option_and_then as_u64 (as_number d)

abbrev pub number_in : Data → Option ℕ
number_in d = option_and_then (in_range 1 highest_number) (whole_number d)

abbrev pub desk_in : Data → Option ℕ
desk_in d = option_and_then (in_range 0 999) (whole_number d)

abbrev pub customer_in : Data → Option ℕ
customer_in d = option_and_then (in_range 1 highest_customer) (whole_number d)

abbrev pub denom_in : Data → Option Denom
denom_in d = option_and_then denom_with (whole_number d)

-- strings, with the usual spellings
abbrev pub day_in : Data → Option ℕ
day_in d = option_and_then day_of (as_str d)

abbrev pub issue_in : Data → Option ℕ
issue_in d = option_and_then issue_of (as_str d)

abbrev pub rate_in : Data → Option ℕ
rate_in d = option_and_then rate_of (as_str d)

abbrev pub serial_in : Data → Option SerialNumber
serial_in d = option_and_then serial_of (as_str d)
