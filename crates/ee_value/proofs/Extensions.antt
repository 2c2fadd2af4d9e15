-- Terms, and the extension that they name.
use Rattle.std.proofs.Common.{◌≡◌, ◌≢◌, ◌≤◌, ◌==◌, ℕ, Bool, true, false, Some, None, eq-eqb, ne_eqb, IfSome, refl, sym, ap}
use Rattle.std.specs.Prelude.{if◌then◌else◌}
use Rattle.std.proofs.lemmas.Bool.{eqb-true}
use Rattle.ee_value.specs.declared.rates.Rates.{Rates}
use Rattle.ee_value.specs.Chain.{InRange, rates_with, named_extension}

pub named-other : (r e : ℕ) → e ≢ r → named_extension (rates_with r (Some e)) ≡ Some e
unfolding named_extension
named-other r e other = rw (ne_eqb e r other) refl

pub named-same : (r : ℕ) → named_extension (rates_with r None) ≡ None
unfolding named_extension
named-same r = rw (eq-eqb r r refl) refl

with_named : (r e : ℕ) (b : Bool) → (e == r) ≡ b → rates_with r (if b then None else Some e) ≡ record { fixed = r; extension = e }
with_named r e true same = ap (λ n. record { fixed = r; extension = n }) (sym (eqb-true e r same))
with_named r e false other = refl

small_named : (r e : ℕ) (b : Bool) → e ≤ 2000 → IfSome (if b then None else Some e) (λ n. n ≤ 2000)
small_named r e true small = tt
small_named r e false small = small

-- a named extension is in range
pub named-le : (rates : Rates) → InRange rates → IfSome (named_extension rates) (λ n. n ≤ 2000)
unfolding named_extension
named-le rates small = small_named rates.fixed rates.extension (rates.extension == rates.fixed) small.1

-- the fixed rate and the named extension give the terms again
pub rates-back : (rates : Rates) → rates_with rates.fixed (named_extension rates) ≡ rates
unfolding named_extension
rates-back rates = with_named rates.fixed rates.extension (rates.extension == rates.fixed) refl
