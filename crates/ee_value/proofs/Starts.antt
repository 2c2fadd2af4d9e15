-- The starts of the half-years.
use Rattle.std.proofs.Common.{◌≡◌, ◌≢◌, eq-eqb, ne_eqb, ℕ, zero, suc, ◌+◌, ◌-◌, ◌*◌, ◌<◌, ◌≤◌, ◌==◌, max, true, false, arith, add-one, add-zero, refl, sym, ap, ◌∙◌, List, [], ◌∷◌, map}
use Rattle.std.specs.List.{range_with_len}
use Rattle.std.specs.Prelude.{if◌then◌else◌, nat_lt}
use Rattle.std.proofs.lemmas.Nat.{mul-le}
use Rattle.std.proofs.lemmas.Bool.{lt-ltb, le-ltb}
use Rattle.ee_value.specs.declared.rates.Rates.{Rates}
use Rattle.ee_value.specs.Rounding.{grown}
use Rattle.ee_value.specs.Chain.{InRange, rate_in, start}
use Rattle.ee_value.proofs.Rounding.{linear, grown-half_year}

-- the start of half-year k, from the start of the half-year before
unfoldable pub step : ℕ → ℕ → ℕ → ℕ
step r u k = if k == 40 then max (linear u r) 2500 else linear u r

-- the starts of half-years at these rates, computed by that division
unfoldable pub linear-start : (ℕ → ℕ) → ℕ → ℕ
linear-start f zero = 1250
linear-start f (suc k) = step (f k) (linear-start f k) (suc k)

pub linear-mono : (u v r s : ℕ) → u ≤ v → r ≤ s → linear u r ≤ linear v s
linear-mono u v r s h k =
    let m : u * (20000 + r) ≤ v * (20000 + s) = mul-le u (20000 + r) v (20000 + s) h (omega arith) in omega (arith, m)

pub linear-grows : (u r : ℕ) → u ≤ linear u r
linear-grows u r =
    let m : u * 20000 ≤ u * (20000 + r) = mul-le u 20000 u (20000 + r) (omega arith) (omega arith) in omega (arith, m)

pub step-mono : (r s u v k : ℕ) → u ≤ v → r ≤ s → step r u k ≤ step s v k
unfolding step
step-mono r s u v k h l =
    elim (k == 40) as (λ b. (if b then max (linear u r) 2500 else linear u r) ≤ (if b then max (linear v s) 2500 else linear v s)) [
      | true ↦ omega (arith, linear-mono u v r s h l)
      | false ↦ linear-mono u v r s h l
    ]

pub step-grows : (r u k : ℕ) → u ≤ step r u k
unfolding step
step-grows r u k =
    elim (k == 40) as (λ b. u ≤ (if b then max (linear u r) 2500 else linear u r)) [
      | true ↦ omega (arith, linear-grows u r)
      | false ↦ linear-grows u r
    ]

pub linear-start-mono : (f g : ℕ → ℕ) (k : ℕ) → ((j : ℕ) → f j ≤ g j) → linear-start f k ≤ linear-start g k
unfolding linear-start
linear-start-mono f g zero h = omega arith
linear-start-mono f g (suc k) h = step-mono (f k) (g k) (linear-start f k) (linear-start g k) (suc k) (linear-start-mono f g k h) (h k)

pub linear-start-next : (f : ℕ → ℕ) (k : ℕ) → linear-start f k ≤ linear-start f (suc k)
unfolding linear-start
linear-start-next f k = step-grows (f k) (linear-start f k) (suc k)

pub linear-start-later : (f : ℕ → ℕ) (k j : ℕ) → linear-start f k ≤ linear-start f (k + j)
linear-start-later f k zero = rw (add-zero k) (omega arith)
linear-start-later f k (suc j) =
    let e : k + suc j ≡ suc (k + j) = omega arith in
    let g : linear-start f (k + j) ≤ linear-start f (suc (k + j)) = linear-start-next f (k + j) in
    rw e (omega (arith, linear-start-later f k j, g))

pub linear-start-2000 : linear-start (λ j. 2000) 60 ≡ 380617
unfolding linear-start step
linear-start-2000 = refl

pub linear-start-le : (f : ℕ → ℕ) (k : ℕ) → ((j : ℕ) → f j ≤ 2000) → k ≤ 60 → linear-start f k ≤ 380617
linear-start-le f k h few =
    let e : k + (60 - k) ≡ 60 = omega arith in
    let a : linear-start (λ j. 2000) k ≤ linear-start (λ j. 2000) (k + (60 - k)) = linear-start-later (λ j. 2000) k (60 - k) in
    let b : linear-start (λ j. 2000) (k + (60 - k)) ≡ 380617 = ap (λ n. linear-start (λ j. 2000) n) e ∙ linear-start-2000 in
    omega (arith, a, b, linear-start-mono f (λ j. 2000) k h)

-- ---- the rates in force

pub rate-le : (rates : Rates) (k : ℕ) → InRange rates → rate_in rates k ≤ 2000
unfolding rate_in
rate-le rates k small =
    elim (nat_lt k 40) as (λ b. (if b then rates.fixed else rates.extension) ≤ 2000) [ true ↦ small.0 | false ↦ small.1 ]

pub rate-original : (rates : Rates) (k : ℕ) → k < 40 → rate_in rates k ≡ rates.fixed
unfolding rate_in
rate-original rates k h = rw (lt-ltb k 40 h) refl

pub rate-extended : (rates : Rates) (k : ℕ) → 40 ≤ k → rate_in rates k ≡ rates.extension
unfolding rate_in
rate-extended rates k h = rw (le-ltb k 40 h) refl

-- if one rate holds for the whole life, the rate doesn't change at 20 years
pub rate-kept : (rates : Rates) → rates.extension ≡ rates.fixed → rate_in rates 0 ≡ rate_in rates 40
rate-kept rates same = rate-original rates 0 (omega arith) ∙ sym same ∙ sym (rate-extended rates 40 (omega arith))

-- ---- the same numbers by sixth powers

pub start-is : (rates : Rates) (k : ℕ) → InRange rates → (start rates k ≡ linear-start (rate_in rates) k) × (1250 ≤ start rates k)
unfolding start linear-start step
start-is rates zero h = (refl, omega arith)
start-is rates (suc k) h =
    let ih = start-is rates k h in
    let e : grown (start rates k) (rate_in rates k) 6 ≡ linear (linear-start (rate_in rates) k) (rate_in rates k) =
    grown-half_year (start rates k) (rate_in rates k) (omega (arith, ih.1)) (rate-le rates k h) ∙ ap (λ u. linear u (rate_in rates k)) ih.0 in
    let s : start rates (suc k) ≡ linear-start (rate_in rates) (suc k) = ap (λ n. if suc k == 40 then max n 2500 else n) e in
    let g : linear-start (rate_in rates) k ≤ linear-start (rate_in rates) (suc k) = linear-start-next (rate_in rates) k in
    (s, omega (arith, s, g, ih.0, ih.1))

pub start-le : (rates : Rates) (k : ℕ) → InRange rates → k ≤ 60 → start rates k ≤ 380617
start-le rates k h few =
    omega (arith, (start-is rates k h).0, linear-start-le (rate_in rates) k (λ j. rate-le rates j h) few)

pub start-ge : (rates : Rates) (k : ℕ) → InRange rates → 1250 ≤ start rates k
start-ge rates k h = (start-is rates k h).1

pub start-none : (rates : Rates) → start rates 0 ≡ 1250
unfolding start
start-none rates = refl

pub start-more : (rates : Rates) (k : ℕ) → start rates (k + 1)
    ≡ (if (k + 1) == 40 then max (grown (start rates k) (rate_in rates k) 6) 2500 else grown (start rates k) (rate_in rates k) 6)
unfolding start
start-more rates k = rw (add-one k) refl

pub start-at_20_years : (rates : Rates) (k : ℕ) → k + 1 ≡ 40 → start rates (k + 1) ≡ max (grown (start rates k) (rate_in rates k) 6) 2500
start-at_20_years rates k h =
    start-more rates k ∙ ap (λ b. if b then max (grown (start rates k) (rate_in rates k) 6) 2500 else grown (start rates k) (rate_in rates k) 6) (eq-eqb (k + 1) 40 h)

pub start-else : (rates : Rates) (k : ℕ) → k + 1 ≢ 40 → start rates (k + 1) ≡ grown (start rates k) (rate_in rates k) 6
start-else rates k h =
    start-more rates k ∙ ap (λ b. if b then max (grown (start rates k) (rate_in rates k) 6) 2500 else grown (start rates k) (rate_in rates k) 6) (ne_eqb (k + 1) 40 h)

starts-of : (rates : Rates) → InRange rates → (ks : List ℕ) → map (start rates) ks ≡ map (linear-start (rate_in rates)) ks
starts-of rates small [] = refl
starts-of rates small (k ∷ ks) = ap (λ x. x ∷ map (start rates) ks) (start-is rates k small).0 ∙ ap (λ xs. linear-start (rate_in rates) k ∷ xs) (starts-of rates small ks)

-- starts, computed
pub starts-are : (rates : Rates) → InRange rates → (k n : ℕ) → map (start rates) (range_with_len k n) ≡ map (linear-start (rate_in rates)) (range_with_len k n)
starts-are rates small k n = starts-of rates small (range_with_len k n)
