-- The value of one unit at an age in whole months since its issue. In cents.
use Rattle.std.specs.Prelude.{ℕ, ◌-◌, ◌/◌, ◌%◌, min, nat_lt, if◌then◌else◌}
use Rattle.ee_value.specs.declared.rates.Rates.{Rates}
use Rattle.ee_value.specs.Rounding.{grown}
use Rattle.ee_value.specs.Chain.{rate_in, start}

-- the accrued value of a unit at age a, without penalty; interest stops at 30 years (31 CFR Part 351)
unfoldable pub accrued : Rates → ℕ → ℕ
accrued rates a = grown (start rates (min a 360 / 6)) (rate_in rates (min a 360 / 6)) (min a 360 % 6)

-- what a unit pays at age a, at least 12: before five years, the value of three months earlier (31 CFR Part 351)
unfoldable pub redemption : Rates → ℕ → ℕ
redemption rates a = accrued rates (if nat_lt a 60 then a - 3 else a)
