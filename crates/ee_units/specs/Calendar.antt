-- Months are counts from May 2005, the first month of these bonds, and days counts from 1970-01-01.
-- Definitions of this project, over the civil calendar of jiff_core.
use Rattle.std.specs.Prelude.{◌≡◌, ℕ, ◌+◌, ◌-◌, ◌/◌, ◌%◌, ◌≤◌, ◌==◌, ◌&&◌, ◌||◌, Bool, true, Option, Some, None, nat_le, nat_lt, if◌then◌else◌, ℤ, pos, negsuc, unsigned_abs}
use Rattle.std.specs.List.{position_or_len, range_with_len}
use Rattle.jiff_core.specs.Calendar.{days_from_civil, days_in_month}
use Rattle.ee_units.specs.Limits.{earliest_day, latest_day}

-- the year and the month, 1 to 12, of a count of months
abbrev pub year_of : ℕ → ℕ
year_of m = 2005 + (m + 4) / 12

abbrev pub month_of_year : ℕ → ℕ
month_of_year m = (m + 4) % 12 + 1

-- a bond's age in a month: the calendar months since its issue month (31 CFR Part 351); None before issue
abbrev pub age_of : ℕ → ℕ → Option ℕ
age_of issued month = if nat_le issued month then Some (month - issued) else None

-- the months in which Treasury announces rates: each May and November (31 CFR Part 351)
abbrev pub is_announcement : ℕ → Bool
is_announcement m = month_of_year m == 5 || month_of_year m == 11

-- the rate period of an issue month: the latest May or November that is not after it
pub record IsPeriod (issued period : ℕ) : Type 0 where
  pub announced : is_announcement period ≡ true
  pub not_after : period ≤ issued
  pub latest : (m : ℕ) → is_announcement m ≡ true → m ≤ issued → m ≤ period

-- the same, computed: announcements come every six months from May 2005 on
abbrev pub period_start : ℕ → ℕ
period_start issued = issued - issued % 6

-- the calendar has this date
abbrev pub is_date : ℕ → ℕ → ℕ → Bool
is_date year month day = (nat_le 1 month && nat_le month 12) && (nat_le 1 day && nat_le day (days_in_month (pos year) month))

-- a day from 2005-05-01 to 2199-12-31
abbrev pub day_in_range : ℤ → Option ℕ
day_in_range (pos n) = if nat_le earliest_day n && nat_le n latest_day then Some n else None
day_in_range (negsuc n) = None

-- the first day of a month
unfoldable pub first_day : ℕ → ℕ
first_day m = unsigned_abs (days_from_civil (pos (year_of m)) (month_of_year m) 1)

-- the month of a day: the first month whose successor begins after that day
unfoldable pub month_of_day : ℕ → ℕ
month_of_day n = position_or_len (λ m. nat_lt n (first_day (m + 1))) (range_with_len 0 2336)

-- the day of the month, from 1
abbrev pub day_of_month : ℕ → ℕ
day_of_month n = n + 1 - first_day (month_of_day n)
