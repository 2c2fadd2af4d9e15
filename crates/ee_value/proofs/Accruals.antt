-- A unit's value never falls with age, and is never below its price.
use Rattle.std.proofs.Common.{◌≡◌, ℕ, zero, suc, ◌+◌, ◌-◌, ◌*◌, ◌/◌, ◌%◌, ◌<◌, ◌≤◌, min, true, false, arith, add-zero, refl, sym, ap, ◌∙◌, subst, inl, inr, Result, Ok, Err, MatchResult, IfOk}
use Rattle.std.proofs.lemmas.Bool.{cases_lt, cases_eq, lt-ltb, le-ltb}
use Rattle.ee_value.specs.declared.rates.Rates.{Rates}
use Rattle.ee_value.specs.Rounding.{Rounds, grown}
use Rattle.ee_value.specs.Chain.{InRange, rate_in, start}
use Rattle.ee_value.specs.Value.{accrued, redemption}
use Rattle.ee_value.specs.Open.{is_unsettled, is_open}
use Rattle.ee_value.proofs.Rounding.{grown-none, grown-le, grown-ge, grown-next, Rounds-grown}
use Rattle.ee_value.proofs.OpenAges.{open-inside}
use Rattle.ee_value.proofs.Starts.{rate-le, start-le, start-ge, start-at_20_years, start-else}

pub accrued-counted : (rates : Rates) (a : ℕ) → accrued rates (min a 360) ≡ accrued rates a
unfolding accrued
accrued-counted rates a =
    let e : min (min a 360) 360 ≡ min a 360 = omega arith in rw e refl

-- the value m months after the start of half-year k
abbrev pub inside : Rates → ℕ → ℕ → ℕ
inside rates k m = grown (start rates k) (rate_in rates k) m

start-next : (rates : Rates) (k : ℕ) → inside rates k 6 ≤ start rates (k + 1)
start-next rates k =
    elim (cases_eq (k + 1) 40) [
      | inl at ↦ omega (arith, start-at_20_years rates k at)
      | inr other ↦ omega (arith, start-else rates k other)
    ]

next_half_year : (rates : Rates) (k : ℕ) → inside rates k 5 ≤ inside rates (k + 1) 0
next_half_year rates k =
    omega (arith, grown-next (start rates k) (rate_in rates k) 5, start-next rates k, grown-ge (start rates (k + 1)) (rate_in rates (k + 1)) 0)

pub accrued-inside : (rates : Rates) (k m : ℕ) → 6 * k + m ≤ 360 → m < 6 → accrued rates (6 * k + m) ≡ inside rates k m
unfolding accrued
accrued-inside rates k m h few =
    let e : min (6 * k + m) 360 / 6 ≡ k = omega arith in
    let f : min (6 * k + m) 360 % 6 ≡ m = omega arith in
    rw (e, f) refl

accrued-split : (rates : Rates) (a : ℕ) → a ≤ 360 → accrued rates a ≡ inside rates (a / 6) (a % 6)
accrued-split rates a h =
    let e : 6 * (a / 6) + a % 6 ≡ a = omega arith in
    ap (λ n. accrued rates n) (sym e) ∙ accrued-inside rates (a / 6) (a % 6) (omega arith) (omega arith)

pub accrued-next : (rates : Rates) (a : ℕ) → accrued rates a ≤ accrued rates (suc a)
accrued-next rates a =
    elim (cases_lt a 360) [
      | inl before ↦
          elim (cases_lt (a % 6) 5) [
            | inl inner ↦
                let k : suc a / 6 ≡ a / 6 = omega arith in
                let m : suc a % 6 ≡ suc (a % 6) = omega arith in
                let n : accrued rates (suc a) ≡ inside rates (a / 6) (suc (a % 6)) =
                accrued-split rates (suc a) (omega arith) ∙ ap (λ x. inside rates x (suc a % 6)) k ∙ ap (λ x. inside rates (a / 6) x) m in
                omega (arith, n, accrued-split rates a (omega arith), grown-next (start rates (a / 6)) (rate_in rates (a / 6)) (a % 6))
            | inr last ↦
                let k : suc a / 6 ≡ a / 6 + 1 = omega arith in
                let m : suc a % 6 ≡ 0 = omega arith in
                let five : a % 6 ≡ 5 = omega arith in
                let n : accrued rates (suc a) ≡ inside rates (a / 6 + 1) 0 =
                accrued-split rates (suc a) (omega arith) ∙ ap (λ x. inside rates x (suc a % 6)) k ∙ ap (λ x. inside rates (a / 6 + 1) x) m in
                let o : accrued rates a ≡ inside rates (a / 6) 5 = accrued-split rates a (omega arith) ∙ ap (λ x. inside rates (a / 6) x) five in
                omega (arith, n, o, next_half_year rates (a / 6))
          ]
      | inr past ↦
          let e : min (suc a) 360 ≡ min a 360 = omega arith in
          omega (arith, ap (λ n. accrued rates n) e, accrued-counted rates a, accrued-counted rates (suc a))
    ]

pub accrued-mono : (rates : Rates) (a j : ℕ) → accrued rates a ≤ accrued rates (a + j)
accrued-mono rates a zero = rw (add-zero a) (omega arith)
accrued-mono rates a (suc j) =
    let e : a + suc j ≡ suc (a + j) = omega arith in
    rw e (omega (arith, accrued-mono rates a j, accrued-next rates (a + j)))

pub accrued-ge : (rates : Rates) (a : ℕ) → InRange rates → 1250 ≤ accrued rates a
unfolding accrued
accrued-ge rates a small =
    omega (arith, grown-ge (start rates (min a 360 / 6)) (rate_in rates (min a 360 / 6)) (min a 360 % 6), start-ge rates (min a 360 / 6) small)

pub accrued-le : (rates : Rates) (a : ℕ) → InRange rates → accrued rates a ≤ 761234
unfolding accrued
accrued-le rates a small =
    omega (arith, grown-le (start rates (min a 360 / 6)) (rate_in rates (min a 360 / 6)) (min a 360 % 6), start-le rates (min a 360 / 6) small (omega arith))

pub redemption-penalty : (rates : Rates) (a : ℕ) → a < 60 → redemption rates a ≡ accrued rates (a - 3)
unfolding redemption
redemption-penalty rates a h = rw (lt-ltb a 60 h) refl

pub redemption-whole : (rates : Rates) (a : ℕ) → 60 ≤ a → redemption rates a ≡ accrued rates a
unfolding redemption
redemption-whole rates a h = rw (le-ltb a 60 h) refl

pub Rounds-accrued : (rates : Rates) (a : ℕ) → InRange rates
    → Rounds (start rates (min a 360 / 6)) (rate_in rates (min a 360 / 6)) (min a 360 % 6) (accrued rates a)
unfolding accrued
Rounds-accrued rates a small =
    let g = start-ge rates (min a 360 / 6) small in
    Rounds-grown (start rates (min a 360 / 6)) (rate_in rates (min a 360 / 6)) (min a 360 % 6) (omega arith) (omega arith) (rate-le rates (min a 360 / 6) small)

pub rounds_part : {E : Type 0} (x : Result ℕ E) (rates : Rates) (a : ℕ) (P : ℕ → Type 0) (Q : E → Type 0) → InRange rates
    → MatchResult x (λ c. P c × (c ≡ accrued rates a)) Q
    → IfOk x (λ c. Rounds (start rates (min a 360 / 6)) (rate_in rates (min a 360 / 6)) (min a 360 % 6) c)
rounds_part (Ok c) rates a P Q small h =
    subst (λ n. Rounds (start rates (min a 360 / 6)) (rate_in rates (min a 360 / 6)) (min a 360 % 6) n) (sym h.1) (Rounds-accrued rates a small)
rounds_part (Err e) rates a P Q small h = tt

-- ---- from one half-year to the next

pub walk_some : (rates : Rates) (b k m u r c : ℕ) → k < 60 → m < 6 → u ≡ start rates k → r ≡ rate_in rates k
    → (is_unsettled u r m b ≡ false) × (c ≡ grown u r m)
    → (is_open rates (6 * k + m) b ≡ false) × (c ≡ accrued rates (6 * k + m))
walk_some rates b k m u r c early few begun rate h =
    let d : (6 * k + m) / 6 ≡ k = omega arith in
    let e : (6 * k + m) % 6 ≡ m = omega arith in
    let f : is_unsettled (start rates k) (rate_in rates k) m b ≡ false = rw (begun, rate) at h.0 in
    let g : c ≡ inside rates k m = rw (begun, rate) at h.1 in
    (open-inside rates (6 * k + m) b (omega arith) ∙ (rw (d, e) f), g ∙ sym (accrued-inside rates k m (omega arith) few))

pub walk_none : (rates : Rates) (b k m u r : ℕ) → k < 60 → m < 6 → u ≡ start rates k → r ≡ rate_in rates k
    → is_unsettled u r m b ≡ true → is_open rates (6 * k + m) b ≡ true
walk_none rates b k m u r early few begun rate h =
    let d : (6 * k + m) / 6 ≡ k = omega arith in
    let e : (6 * k + m) % 6 ≡ m = omega arith in
    let f : is_unsettled (start rates k) (rate_in rates k) m b ≡ true = rw (begun, rate) at h in
    open-inside rates (6 * k + m) b (omega arith) ∙ (rw (d, e) f)

-- the value at the start of a half-year
pub accrued-start : (rates : Rates) (k : ℕ) → InRange rates → k ≤ 60 → accrued rates (6 * k) ≡ start rates k
accrued-start rates k small few =
    let g = start-ge rates k small in
    let e : 6 * k ≡ 6 * k + 0 = omega arith in
    ap (λ n. accrued rates n) e ∙ accrued-inside rates k 0 (omega arith) (omega arith) ∙ grown-none (start rates k) (rate_in rates k) (omega arith) (rate-le rates k small)
