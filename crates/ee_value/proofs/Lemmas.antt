-- Lemmas that the crates above may cite.
use Rattle.std.proofs.Common.{◌≡◌, ℕ, ◌≤◌, IfSome}
use Rattle.ee_value.specs.Chain.{InRange, rates_with, named_extension}
use Rattle.ee_value.specs.Value.{accrued}
use Rattle.ee_value.specs.declared.rates.Rates.{Rates}
use Rattle.ee_value.proofs.Accruals
use Rattle.ee_value.proofs.Extensions

-- ---- terms
-- the fixed rate and the named extension give the terms again
pub rates-back : (rates : Rates) → rates_with rates.fixed (named_extension rates) ≡ rates
rates-back = Extensions.rates-back

-- a named extension is in range
pub named-le : (rates : Rates) → InRange rates → IfSome (named_extension rates) (λ n. n ≤ 2000)
named-le = Extensions.named-le

-- ---- accrued values
-- a unit of 25 dollars accrues to at most 7,612.34 dollars
pub accrued-le : (rates : Rates) (a : ℕ) → InRange rates → accrued rates a ≤ 761234
accrued-le = Accruals.accrued-le
