-- Definitions that private contracts alone cite; specs/Payment.antt has the others.
use Rattle.std.specs.Prelude.{ℕ}

-- no bond pays more cents: 400 units, which is 10,000 dollars
abbrev pub highest_value : ℕ
highest_value = 304493600
