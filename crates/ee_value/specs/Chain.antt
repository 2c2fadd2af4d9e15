-- The value of one unit, 12.50 dollars of issue price, at the start of each half-year since its issue
-- (31 CFR Part 351; the unit, and that its rounded value compounds, are this project's rules). In cents.
use Rattle.std.specs.Prelude.{ℕ, zero, suc, ◌≤◌, ◌==◌, nat_lt, max, Option, Some, None, if◌then◌else◌}
use Rattle.ee_value.specs.declared.rates.Rates.{Rates}
use Rattle.ee_value.specs.Rounding.{grown}
use Rattle.ee_units.specs.Limits.{highest_rate, unit_price, unit_face}

-- the rate in force in half-year k, from 0: the extension applies from 20 years on, which is half-year 40
unfoldable pub rate_in : Rates → ℕ → ℕ
rate_in rates k = if nat_lt k 40 then rates.fixed else rates.extension

-- each rate is at most 20 %
abbrev pub InRange : Rates → Type 0
InRange rates = (rates.fixed ≤ highest_rate) × (rates.extension ≤ highest_rate)

-- the terms of a fixed rate and an extension; without an extension the rate doesn't change
abbrev pub rates_with : ℕ → Option ℕ → Rates
rates_with r (Some e) = record { fixed = r; extension = e }
rates_with r None = record { fixed = r; extension = r }

-- the extension, if it differs from the fixed rate
unfoldable pub named_extension : Rates → Option ℕ
named_extension rates = if rates.extension == rates.fixed then None else Some rates.extension

-- the terms with one rate for the whole life
abbrev pub one_rate : ℕ → Rates
one_rate r = record { fixed = r; extension = r }

-- the unit's value at the start of half-year k; at 20 years, half-year 40, it is at least twice the price
unfoldable pub start : Rates → ℕ → ℕ
start rates zero = unit_price
start rates (suc k) =
    if suc k == 40 then max (grown (start rates k) (rate_in rates k) 6) unit_face else grown (start rates k) (rate_in rates k) 6

-- no unit starts a half-year at more cents than at the end of 30 years at 20 percent, and none is ever worth more than
-- twice that
abbrev pub highest_start : ℕ
highest_start = 380617

abbrev pub highest_unit : ℕ
highest_unit = 761234
