-- The values that a caller's plain numbers represent (this project's rules).
use Rattle.std.specs.Prelude.{ℕ, ◌+◌, ◌*◌, ◌/◌, ◌%◌, Option, Some, None, option_and_then}
use Rattle.ee_units.specs.Spelling.{in_range, month_at}
use Rattle.ee_units.specs.Calendar.{year_of, month_of_year}
use Rattle.ee_units.specs.Limits.{latest_issue_month}

-- the month of a number YYYYMM, as 201005, as its count from May 2005
unfoldable pub month_in : ℕ → Option ℕ
month_in n = month_at (n / 100) (n % 100)

-- an issue month is at most 209912
unfoldable pub issue_in : ℕ → Option ℕ
issue_in n = option_and_then (in_range 0 latest_issue_month) (month_in n)

-- the number of a month, or 0 for None
abbrev pub month_number : Option ℕ → ℕ
month_number None = 0
month_number (Some m) = 100 * year_of m + month_of_year m
