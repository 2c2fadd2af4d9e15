-- At which ages the value may be refused, with b binary places: those at which the bounds of a month's growth
-- round to different cents. Rules of this project; they define no value.
use Rattle.std.specs.Prelude.{◌≡◌, ℕ, zero, suc, ◌+◌, ◌-◌, ◌*◌, ◌/◌, ◌%◌, ◌^◌, ◌<◌, ◌≤◌, ◌==◌, ◌&&◌, not, Bool, true, false, nat_le, nat_lt, if◌then◌else◌, Option, position}
use Rattle.std.specs.List.{list_any, range_with_len}
use Rattle.ee_roots.specs.Products.{power_down, power_up}
use Rattle.ee_roots.specs.Amounts.{cents}
use Rattle.ee_value.specs.declared.rates.Rates.{Rates}
use Rattle.ee_value.specs.Rounding.{greatest}
use Rattle.ee_value.specs.Chain.{rate_in, start}

-- the least of the numbers from `from` to `from + n` that satisfies the test
unfoldable pub least : (ℕ → Bool) → ℕ → ℕ → ℕ
least test from zero = from
least test from (suc n) = if test from then from else least test (suc from) n

-- the bounds of the sixth root of (20000 + r) / 20000, with b binary places
unfoldable pub low_root : ℕ → ℕ → ℕ
low_root b r = greatest (λ p. nat_le (power_up b p 5 * 20000) (2 ^ b * (20000 + r))) (2 * 2 ^ b)

unfoldable pub high_root : ℕ → ℕ → ℕ
high_root b r = least (λ p. nat_le (2 ^ b * (20000 + r)) (power_down b p 5 * 20000)) (2 ^ b) (2 ^ b)

-- 2 (20000 + r) is a perfect square; it is between the squares of 200 and 210
unfoldable pub is_exact : ℕ → Bool
is_exact r = list_any (λ k. k * k == 2 * (20000 + r)) (range_with_len 200 10)

-- the bounds of u, grown for m months, round to different cents
unfoldable pub bounds_differ : ℕ → ℕ → ℕ → ℕ → Bool
bounds_differ u r m b =
    not (cents b (u * power_down b (low_root b r) (m - 1)) == cents b (u * power_up b (high_root b r) (m - 1)))

-- u, grown for m months of a half-year, needs the bounds, and they don't settle it
unfoldable pub is_unsettled : ℕ → ℕ → ℕ → ℕ → Bool
is_unsettled u r m b = not (m == 0) && not (r == 0) && not (m == 3 && is_exact r) && bounds_differ u r m b

-- the value at age a is open with b binary places
unfoldable pub is_open : Rates → ℕ → ℕ → Bool
is_open rates a b = nat_lt a 360 && is_unsettled (start rates (a / 6)) (rate_in rates (a / 6)) (a % 6) b

-- the least age at which the value is open at these rates, if there is one
unfoldable pub first_open : Rates → ℕ → Option ℕ
first_open rates b = position (λ a. is_open rates a b) (range_with_len 0 361)

-- at these rates the value is open at no age
abbrev pub NeverOpen : Rates → ℕ → Type 0
NeverOpen rates b = (a : ℕ) → is_open rates a b ≡ false

-- a is the least age at which the value is open at these rates
abbrev pub IsFirstOpen : Rates → ℕ → ℕ → Type 0
IsFirstOpen rates b a = (is_open rates a b ≡ true) × ((k : ℕ) → k < a → is_open rates k b ≡ false)

-- the true value of u, grown for m months, is within 32 u / 2 ^ b cents of a half cent h / 2, with the odd number
-- h = 2 j + 1
abbrev pub Close : ℕ → ℕ → ℕ → ℕ → Type 0
Close u r m b =
    (j : ℕ) × ((((2 * j + 1) * 2 ^ b - 64 * u) ^ 6 * 20000 ^ m ≤ (2 ^ (b + 1) * u) ^ 6 * (20000 + r) ^ m)
    × ((2 ^ (b + 1) * u) ^ 6 * (20000 + r) ^ m ≤ ((2 * j + 1) * 2 ^ b + 64 * u) ^ 6 * 20000 ^ m))
