-- What a bond pays (31 CFR Part 351; that age 12 is payable is this project's reading).
use Rattle.std.specs.Prelude.{◌≡◌, ℕ, ◌-◌, ◌*◌, ◌<◌, ◌≤◌, ◌↔◌, ◌&&◌, Bool, not, IsTrue, nat_lt, if◌then◌else◌}
use Rattle.ee_value.specs.declared.rates.Rates.{Rates}
use Rattle.ee_value.specs.declared.quotes.Quote.{Quote}
use Rattle.ee_value.specs.declared.quotes.Quote.TheVariants.{NotEligible, Pays}
use Rattle.ee_value.specs.Value.{redemption}
use Rattle.ee_value.specs.Open.{is_open}
use Rattle.ee_units.specs.Limits.{unit_price}
use Rattle.ee_value.specs.Chain.{highest_unit}

-- what n units pay at age a
abbrev pub IsQuoteOf : Rates → ℕ → ℕ → Quote → Type 0
IsQuoteOf rates n a NotEligible = a < 12
IsQuoteOf rates n a (Pays cents penalty matured) =
    (12 ≤ a) × (cents.0 ≡ n * redemption rates a) × (n * unit_price ≤ cents.0) × (cents.0 ≤ n * highest_unit)
    × (IsTrue penalty ↔ (a < 60)) × (IsTrue matured ↔ (360 ≤ a))

-- the age whose accrued value a bond pays at age a; a is at least 12
abbrev pub counted_age : ℕ → ℕ
counted_age a = if nat_lt a 60 then a - 3 else a

-- the payment at age a is open with b binary places
unfoldable pub is_payment_open : Rates → ℕ → ℕ → Bool
is_payment_open rates a b = not (nat_lt a 12) && is_open rates (counted_age a) b
