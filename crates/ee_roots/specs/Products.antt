-- Fixed-point numbers with b binary places: p stands for p / 2 ^ b. Rules of this project.
use Rattle.std.specs.Prelude.{ℕ, zero, suc, ◌*◌, ◌/◌, ◌^◌}
use Rattle.std.specs.Int.{div_ceil}

-- p q / 2 ^ b, rounded down
abbrev pub down : ℕ → ℕ → ℕ → ℕ
down b p q = p * q / 2 ^ b

-- p q / 2 ^ b, rounded up
abbrev pub up : ℕ → ℕ → ℕ → ℕ
up b p q = div_ceil (p * q) (2 ^ b)

-- p, multiplied k times by p, each product rounded down
unfoldable pub power_down : ℕ → ℕ → ℕ → ℕ
power_down b p zero = p
power_down b p (suc k) = down b (power_down b p k) p

-- p, multiplied k times by p, each product rounded up
unfoldable pub power_up : ℕ → ℕ → ℕ → ℕ
power_up b p zero = p
power_up b p (suc k) = up b (power_up b p k) p
