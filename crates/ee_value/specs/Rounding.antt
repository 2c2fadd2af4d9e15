-- Rounding to the nearest cent (31 CFR Part 351; that an exact half cent rounds up is this project's
-- rule). Rates are in hundredths of a percent, so that a half-year multiplies by (20000 + r) / 20000.
use Rattle.std.specs.Prelude.{ℕ, zero, suc, ◌+◌, ◌-◌, ◌*◌, ◌^◌, ◌<◌, ◌≤◌, Bool, nat_le, if◌then◌else◌}

-- c is u (1 + r / 20000) ^ (m / 6), rounded to the nearest cent, half a cent up; stated by sixth powers
abbrev pub Rounds : ℕ → ℕ → ℕ → ℕ → Type 0
Rounds u r m c =
    (1 ≤ c) × ((2 * c - 1) ^ 6 * 20000 ^ m ≤ (2 * u) ^ 6 * (20000 + r) ^ m)
    × ((2 * u) ^ 6 * (20000 + r) ^ m < (2 * c + 1) ^ 6 * 20000 ^ m)

-- the greatest number up to n that satisfies the test, or 0
unfoldable pub greatest : (ℕ → Bool) → ℕ → ℕ
greatest test zero = 0
greatest test (suc n) = if test (suc n) then suc n else greatest test n

-- the cents that u grows to in m months of a half-year at rate r: the c of Rounds u r m c
unfoldable pub grown : ℕ → ℕ → ℕ → ℕ
grown u r m = greatest (λ c. nat_le ((2 * c - 1) ^ 6 * 20000 ^ m) ((2 * u) ^ 6 * (20000 + r) ^ m)) (2 * u)
