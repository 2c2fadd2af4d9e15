-- Definitions that private contracts alone cite; specs/Open.antt has the others.
use Rattle.std.specs.Prelude.{◌≡◌, ◌≢◌, ℕ, ◌+◌, ◌*◌, ◌^◌, ◌≤◌, false}
use Rattle.ee_value.specs.Open.{is_exact}

-- the growth of m months at rate r needs the bounds: it isn't zero, and isn't a known fraction
abbrev pub IsLeftToBounds : ℕ → ℕ → Type 0
IsLeftToBounds r m = (m ≢ 0) × (r ≢ 0) × (m ≡ 3 → is_exact r ≡ false)

-- two bounds of a month's growth or its power, with b binary places, are close to each other and to 1
abbrev pub AreNear : ℕ → ℕ → ℕ → Type 0
AreNear b low high = (low ≤ high) × (high ≤ low + 32) × (32 * high ≤ 43 * 2 ^ b)
