-- Amounts in cents as fixed-point numbers. Rules of this project.
use Rattle.std.specs.Prelude.{ℕ, ◌+◌, ◌-◌, ◌/◌, ◌^◌}

-- p / 2 ^ b rounded to the nearest whole cent; half a cent rounds up
abbrev pub cents : ℕ → ℕ → ℕ
cents b p = (p + 2 ^ (b - 1)) / 2 ^ b
