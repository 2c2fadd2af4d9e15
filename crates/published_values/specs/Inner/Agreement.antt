-- When a published value equals what a bond pays.
use Rattle.std.specs.Prelude.{◌≡◌, ℕ, ◌≤◌, Option, Some, None}
use Rattle.ee_value.specs.declared.rates.Rates.{Rates}
use Rattle.ee_value.specs.Value.{redemption}

-- at these rates a unit pays `unit` cents at an age
abbrev pub Pays : Rates → ℕ → ℕ → Type 0
Pays rates age unit = (12 ≤ age) × (unit ≡ redemption rates age)

-- the same, if there are rates and the month is not before issue
abbrev pub PaysOf : Option Rates → Option ℕ → ℕ → Type 0
PaysOf (Some rates) (Some age) unit = Pays rates age unit
PaysOf (Some rates) None unit = ⊥
PaysOf None age unit = ⊥
