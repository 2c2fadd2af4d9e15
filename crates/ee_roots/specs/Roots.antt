-- Bounds of the sixth root of a half-year's growth, 1 + r / 20000, at b binary places. The root is one month's growth.
-- Rules of this project.
use Rattle.std.specs.Prelude.{ℕ, ◌+◌, ◌*◌, ◌^◌, ◌≤◌}
use Rattle.ee_roots.specs.Products.{power_down, power_up}

-- the sixth power of p by five products rounded up is at most 1 + r / 20000
abbrev pub IsBelow : ℕ → ℕ → ℕ → Type 0
IsBelow b r p = power_up b p 5 * 20000 ≤ 2 ^ b * (20000 + r)

-- the sixth power of p by five products rounded down is at least 1 + r / 20000
abbrev pub IsAbove : ℕ → ℕ → ℕ → Type 0
IsAbove b r p = 2 ^ b * (20000 + r) ≤ power_down b p 5 * 20000

-- p is the greatest number, at least 2 ^ b, whose sixth power, by products rounded up, is at most 1 + r / 20000
abbrev pub IsLow : ℕ → ℕ → ℕ → Type 0
IsLow b r p = (2 ^ b ≤ p) × IsBelow b r p × ((q : ℕ) → IsBelow b r q → q ≤ p)

-- p is the least number, at least 2 ^ b, whose sixth power, by products rounded down, is at least 1 + r / 20000
abbrev pub IsHigh : ℕ → ℕ → ℕ → Type 0
IsHigh b r p = (2 ^ b ≤ p) × IsAbove b r p × ((q : ℕ) → 2 ^ b ≤ q → IsAbove b r q → p ≤ q)

-- what callers need to know of the bounds: they enclose the root
abbrev pub Encloses : ℕ → ℕ → ℕ → ℕ → Type 0
Encloses b r low high =
    (low ^ 6 * 20000 ≤ 2 ^ (6 * b) * (20000 + r)) × (2 ^ (6 * b) * (20000 + r) ≤ high ^ 6 * 20000)

-- bounds of a root, as fixed-point numbers with `bits` binary places
pub record Bounds : Type 0 where
  pub low : ℕ
  pub high : ℕ
  pub bits : ℕ
