-- Ages at which a value is open.
use Rattle.std.proofs.Common.{◌≡◌, ◌≢◌, ◌⊎◌, ℕ, zero, suc, ◌+◌, ◌-◌, ◌*◌, ◌/◌, ◌%◌, ◌^◌, ◌<◌, ◌≤◌, ◌==◌, ◌&&◌, not, Bool, true, false, nat_le, arith, refl, sym, ap, ◌∙◌, inl, inr, eq-eqb, ne_eqb, Option, Some, None, MatchOption, SomeIff, min, MatchResult, Result, Ok, Err, IfErr}
use Rattle.std.proofs.lemmas.Nat.{pow_pos, pow-add, mul-le}
use Rattle.std.proofs.lemmas.Bool.{cases_lt, cases_eq, le-leb, lt-leb, lt-ltb, le-ltb, false≢true}
use Rattle.std.specs.Option.{ok_or}
use Rattle.ee_roots.specs.Products.{power_down, power_up}
use Rattle.ee_roots.specs.Roots.{IsLow, IsHigh}
use Rattle.ee_roots.specs.Amounts.{cents}
use Rattle.ee_roots.proofs.Lemmas.{power_up-mono, power_down-le-up, top_exceeds, top_reaches, Encloses-from_root}
use Rattle.std.proofs.Math.Pow.{shr_mono}
use Rattle.std.proofs.Math.Nat.{mul-le-mul_left}
use Rattle.ee_value.proofs.Settled.{Rounds-settled, Close-from_bounds}
use Rattle.ee_value.specs.declared.rates.Rates.{Rates}
use Rattle.ee_value.specs.Rounding.{Rounds, grown}
use Rattle.ee_value.specs.Chain.{rate_in, start}
use Rattle.ee_value.specs.Value.{accrued}
use Rattle.ee_value.specs.Open.{Close, least, low_root, high_root, is_exact, bounds_differ, is_unsettled, is_open}
use Rattle.ee_value.proofs.Rounding.{greatest-is, grown-is}

pub low_root-is : (b r p : ℕ) → 8 ≤ b → r ≤ 2000 → IsLow b r p → low_root b r ≡ p
unfolding low_root
low_root-is b r p big small l =
    let top = top_exceeds b r (2 ^ b) (2 ^ b * (20000 + r)) big small refl refl in
    let bound : p ≤ 2 * 2 ^ b =
    elim (cases_lt p (2 ^ b + 2 ^ b / 32)) [
      | inl lt ↦ omega arith
      | inr le ↦ absurd (omega (arith, top, l.1, power_up-mono b (2 ^ b + 2 ^ b / 32) p 5 le))
    ] in
    greatest-is (λ q. nat_le (power_up b q 5 * 20000) (2 ^ b * (20000 + r))) (2 * 2 ^ b) p bound (le-leb _ _ l.1)
    (λ q lt. elim (cases_lt (2 ^ b * (20000 + r)) (power_up b q 5 * 20000)) [
      | inl over ↦ lt-leb _ _ over
      | inr le ↦ absurd (omega (arith, l.2 q le))
    ])

pub least-is : (test : ℕ → Bool) (from n p : ℕ) → from ≤ p → p ≤ from + n → test p ≡ true → ((q : ℕ) → from ≤ q → q < p → test q ≡ false) → least test from n ≡ p
unfolding least
least-is test from zero p h k passes fails = omega arith
least-is test from (suc n) p h k passes fails =
    elim (cases_lt from p) [
      | inl below ↦
          let f : test from ≡ false = fails from (omega arith) below in
          rw f (least-is test (suc from) n p (omega arith) (omega arith) passes (λ q le lt. fails q (omega arith) lt))
      | inr here ↦
          let e : from ≡ p = omega arith in
          let t : test from ≡ true = ap test e ∙ passes in rw t e
    ]

pub high_root-is : (b r p : ℕ) → 8 ≤ b → r ≤ 2000 → IsHigh b r p → high_root b r ≡ p
unfolding high_root
high_root-is b r p big small h =
    let top = top_reaches b r (2 ^ b) (2 ^ b * (20000 + r)) big small refl refl in
    let bound : p ≤ 2 ^ b + 2 ^ b / 32 = h.2 (2 ^ b + 2 ^ b / 32) (omega arith) (omega (arith, top)) in
    least-is (λ q. nat_le (2 ^ b * (20000 + r)) (power_down b q 5 * 20000)) (2 ^ b) (2 ^ b) p h.0 (omega arith) (le-leb _ _ h.1)
    (λ q one lt. elim (cases_lt (power_down b q 5 * 20000) (2 ^ b * (20000 + r))) [
      | inl under ↦ lt-leb _ _ under
      | inr le ↦ absurd (omega (arith, h.2 q one le))
    ])

-- ---- the cases of `is_unsettled`

pub unsettled-none : (u r b : ℕ) → is_unsettled u r 0 b ≡ false
unfolding is_unsettled
unsettled-none u r b = refl

pub unsettled-zero : (u m b : ℕ) → is_unsettled u 0 m b ≡ false
unfolding is_unsettled
unsettled-zero u m b = elim (m == 0) as (λ t. (not t && false && not (m == 3 && is_exact 0) && bounds_differ u 0 m b) ≡ false) [ true ↦ refl | false ↦ refl ]

pub unsettled-exact : (u r b : ℕ) → is_exact r ≡ true → is_unsettled u r 3 b ≡ false
unfolding is_unsettled
unsettled-exact u r b h = rw h (elim (r == 0) as (λ t. (not t && false && bounds_differ u r 3 b) ≡ false) [ true ↦ refl | false ↦ refl ])

pub unsettled-bounds : (u r m b : ℕ) → m ≢ 0 → r ≢ 0 → (m ≡ 3 → is_exact r ≡ false) → is_unsettled u r m b ≡ bounds_differ u r m b
unfolding is_unsettled
unsettled-bounds u r m b some rate inexact =
    let e : (m == 3 && is_exact r) ≡ false =
    elim (cases_eq m 3) [
      | inl three ↦ ap (λ t. t && is_exact r) (eq-eqb m 3 three) ∙ inexact three
      | inr other ↦ ap (λ t. t && is_exact r) (ne_eqb m 3 other)
    ] in
    rw (ne_eqb m 0 some, ne_eqb r 0 rate, e) refl

-- ---- perfect squares

exact : (r n r' n' : ℕ) → r ≡ r' → n ≡ n' → is_exact r' ≡ true → 2 * (n' * n') ≡ 20000 + r' → 100 ≤ n' → n' ≤ 104
    → (is_exact r ≡ true) × (2 * (n * n) ≡ 20000 + r) × (100 ≤ n) × (n ≤ 104)
exact r n r' n' e f h k low high =
    (ap is_exact e ∙ h, rw (e, f) k, omega arith, omega arith)

pub exact-roots : (r n : ℕ) → ((r ≡ 402) × (n ≡ 101)) ⊎ (((r ≡ 808) × (n ≡ 102)) ⊎ (((r ≡ 1218) × (n ≡ 103)) ⊎ ((r ≡ 1632) × (n ≡ 104))))
    → (is_exact r ≡ true) × (2 * (n * n) ≡ 20000 + r) × (100 ≤ n) × (n ≤ 104)
unfolding is_exact
exact-roots r n h =
    elim h [
      | inl p ↦ exact r n 402 101 p.0 p.1 refl refl (omega arith) (omega arith)
      | inr h' ↦ elim h' [
        | inl p ↦ exact r n 808 102 p.0 p.1 refl refl (omega arith) (omega arith)
        | inr h'' ↦ elim h'' [
          | inl p ↦ exact r n 1218 103 p.0 p.1 refl refl (omega arith) (omega arith)
          | inr p ↦ exact r n 1632 104 p.0 p.1 refl refl (omega arith) (omega arith)
        ]
      ]
    ]

pub inexact : (r : ℕ) → r ≢ 0 → r ≢ 402 → r ≢ 808 → r ≢ 1218 → r ≢ 1632 → r ≤ 2000 → is_exact r ≡ false
unfolding is_exact
inexact r a b c d e small =
    rw (
      ne_eqb 40000 (2 * (20000 + r)) (omega arith),
      ne_eqb 40401 (2 * (20000 + r)) (omega arith),
      ne_eqb 40804 (2 * (20000 + r)) (omega arith),
      ne_eqb 41209 (2 * (20000 + r)) (omega arith),
      ne_eqb 41616 (2 * (20000 + r)) (omega arith),
      ne_eqb 42025 (2 * (20000 + r)) (omega arith),
      ne_eqb 42436 (2 * (20000 + r)) (omega arith),
      ne_eqb 42849 (2 * (20000 + r)) (omega arith),
      ne_eqb 43264 (2 * (20000 + r)) (omega arith),
      ne_eqb 43681 (2 * (20000 + r)) (omega arith),
    ) refl

cents_apart : (b x y : ℕ) → x ≤ y → cents b x ≢ cents b y → cents b x < cents b y
cents_apart b x y h differ =
    let m : cents b x ≤ cents b y = shr_mono b (omega arith) in omega arith

-- ---- what `settle` says about the bounds

module _ (u r m b low high : ℕ) (big : 8 ≤ b) (small : r ≤ 2000) (some : 1 ≤ u) (inside : 1 ≤ m) (few : m ≤ 5)
    (is_low : IsLow b r low) (is_high : IsHigh b r high) where
  differ-is : bounds_differ u r m b ≡ not (cents b (u * power_down b low (m - 1)) == cents b (u * power_up b high (m - 1)))
  unfolding bounds_differ
  differ-is =
      ap (λ l. not (cents b (u * power_down b l (m - 1)) == cents b (u * power_up b (high_root b r) (m - 1)))) (low_root-is b r low big small is_low)
      ∙ ap (λ h. not (cents b (u * power_down b low (m - 1)) == cents b (u * power_up b h (m - 1)))) (high_root-is b r high big small is_high)

  pub settled : (c : ℕ) → cents b (u * power_down b low (m - 1)) ≡ cents b (u * power_up b high (m - 1))
      → cents b (u * power_down b low (m - 1)) ≡ c → (bounds_differ u r m b ≡ false) × (c ≡ grown u r m)
  settled c same is =
      let e : m - 1 + 1 ≡ m = omega arith in
      let rounds : Rounds u r (m - 1 + 1) (cents b (u * power_down b low (m - 1))) =
      Rounds-settled u r b low high (m - 1) some (omega arith) (Encloses-from_root b r low high is_low is_high) same in
      let rounds' : Rounds u r m (cents b (u * power_down b low (m - 1))) = rw e at rounds in
      (differ-is ∙ ap not (eq-eqb _ _ same), sym is ∙ sym (grown-is u r m _ (omega arith) small rounds'))

  pub unsettled : cents b (u * power_down b low (m - 1)) ≢ cents b (u * power_up b high (m - 1))
      → power_up b high (m - 1) ≤ power_down b low (m - 1) + 32 → low ≤ high → (bounds_differ u r m b ≡ true) × Close u r m b
  unsettled differ narrow order =
      let e : m - 1 + 1 ≡ m = omega arith in
      let powers : power_down b low (m - 1) ≤ power_up b high (m - 1) =
      omega (arith, power_down-le-up b low (m - 1), power_up-mono b low high (m - 1) order) in
      let apart : cents b (u * power_down b low (m - 1)) < cents b (u * power_up b high (m - 1)) =
      cents_apart b (u * power_down b low (m - 1)) (u * power_up b high (m - 1)) (mul-le-mul_left u powers) differ in
      let close : Close u r (m - 1 + 1) b =
      Close-from_bounds u r b low high (m - 1) (omega arith) (Encloses-from_root b r low high is_low is_high) narrow apart in
      (differ-is ∙ ap not (ne_eqb _ _ differ), rw e at close)

pub settle_cases : (o : Option ℕ) (E : Type 0) (v : ℕ) (P : Type 0) (Q : ℕ → Type 0) → SomeIff o E v → ((E → ⊥) → P) → (E → (c : ℕ) → v ≡ c → Q c) → MatchOption o P Q
settle_cases None E v P Q h fails passes = fails h
settle_cases (Some c) E v P Q h fails passes = passes h.0 c (sym h.1)

pub unit-fits : (u b h : ℕ) → u ≤ 380617 → 32 * h ≤ 43 * 2 ^ b → u * h < 2 ^ (b + 63)
unit-fits u b h small near =
    let m : u * (32 * h) ≤ 380617 * (43 * 2 ^ b) = mul-le u (32 * h) 380617 (43 * 2 ^ b) small near in
    let p : 2 ^ (b + 63) ≡ 2 ^ b * 2 ^ 63 = pow-add 2 b 63 in
    omega (arith, m, p, pow_pos b)

-- ---- the value at an age

pub open-inside : (rates : Rates) (a b : ℕ) → a < 360 → is_open rates a b ≡ is_unsettled (start rates (a / 6)) (rate_in rates (a / 6)) (a % 6) b
unfolding is_open
open-inside rates a b h = rw (lt-ltb a 360 h) refl

pub open-past : (rates : Rates) (a b : ℕ) → 360 ≤ a → is_open rates a b ≡ false
unfolding is_open
open-past rates a b h = rw (le-ltb a 360 h) refl

unit_some : (rates : Rates) (a b c : ℕ)
    → (is_unsettled (start rates (min a 360 / 6)) (rate_in rates (min a 360 / 6)) (min a 360 % 6) b ≡ false)
    × (c ≡ grown (start rates (min a 360 / 6)) (rate_in rates (min a 360 / 6)) (min a 360 % 6))
    → (is_open rates a b ≡ false) × (c ≡ accrued rates a)
unfolding accrued
unit_some rates a b c h =
    elim (cases_lt a 360) [
      | inl lt ↦
          let e : min a 360 ≡ a = omega arith in
          (open-inside rates a b lt ∙ (rw e at h.0), h.1)
      | inr le ↦ (open-past rates a b le, h.1)
    ]

unit_none : (rates : Rates) (a b : ℕ)
    → (is_unsettled (start rates (min a 360 / 6)) (rate_in rates (min a 360 / 6)) (min a 360 % 6) b ≡ true)
    × Close (start rates (min a 360 / 6)) (rate_in rates (min a 360 / 6)) (min a 360 % 6) b
    → (is_open rates a b ≡ true) × Close (start rates (a / 6)) (rate_in rates (a / 6)) (a % 6) b
unit_none rates a b h =
    elim (cases_lt a 360) [
      | inl lt ↦
          let e : min a 360 ≡ a = omega arith in
          (open-inside rates a b lt ∙ (rw e at h.0), rw e at h.1)
      | inr le ↦
          let e : min a 360 % 6 ≡ 0 = omega arith in
          absurd (false≢true (sym (unsettled-none (start rates (min a 360 / 6)) (rate_in rates (min a 360 / 6)) b)
          ∙ ap (λ m. is_unsettled (start rates (min a 360 / 6)) (rate_in rates (min a 360 / 6)) m b) (sym e) ∙ h.0))
    ]

pub unit_answer : {E : Type 0} (rates : Rates) (a b s r k : ℕ) (o : Option ℕ) (e : E) (Q : E → Type 0)
    → k ≡ min a 360 → s ≡ start rates (k / 6) → r ≡ rate_in rates (k / 6)
    → MatchOption o ((is_unsettled s r (k % 6) b ≡ true) × Close s r (k % 6) b) (λ c. (is_unsettled s r (k % 6) b ≡ false) × (c ≡ grown s r (k % 6)))
    → ((is_open rates a b ≡ true) × Close (start rates (a / 6)) (rate_in rates (a / 6)) (a % 6) b → Q e)
    → MatchResult (ok_or o e) (λ c. (is_open rates a b ≡ false) × (c ≡ accrued rates a)) Q
unit_answer rates a b s r k None e Q counted begun rate h answer =
    answer (unit_none rates a b (rw (counted) at (rw (begun, rate) at h)))
unit_answer rates a b s r k (Some c) e Q counted begun rate h answer =
    unit_some rates a b c (rw (counted) at (rw (begun, rate) at h))

pub err_part : {E : Type 0} (x : Result ℕ E) (Q : ℕ → Type 0) (R : E → Type 0) → MatchResult x Q R → IfErr x R
err_part (Ok c) Q R h = tt
err_part (Err e) Q R h = h

-- ---- ages that are never open

open-not : (rates : Rates) (a b : ℕ) → is_unsettled (start rates (a / 6)) (rate_in rates (a / 6)) (a % 6) b ≡ false → is_open rates a b ≡ false
open-not rates a b h =
    elim (cases_lt a 360) [
      | inl lt ↦ open-inside rates a b lt ∙ h
      | inr le ↦ open-past rates a b le
    ]

pub open-whole : (rates : Rates) (a b : ℕ) → a % 6 ≡ 0 → is_open rates a b ≡ false
open-whole rates a b h =
    open-not rates a b (ap (λ m. is_unsettled (start rates (a / 6)) (rate_in rates (a / 6)) m b) h ∙ unsettled-none (start rates (a / 6)) (rate_in rates (a / 6)) b)

pub open-zero : (rates : Rates) (a b : ℕ) → rate_in rates (a / 6) ≡ 0 → is_open rates a b ≡ false
open-zero rates a b h =
    open-not rates a b (ap (λ r. is_unsettled (start rates (a / 6)) r (a % 6) b) h ∙ unsettled-zero (start rates (a / 6)) (a % 6) b)

pub open-exact : (rates : Rates) (a b : ℕ) → a % 6 ≡ 3 → is_exact (rate_in rates (a / 6)) ≡ true → is_open rates a b ≡ false
open-exact rates a b h exact =
    open-not rates a b (ap (λ m. is_unsettled (start rates (a / 6)) (rate_in rates (a / 6)) m b) h ∙ unsettled-exact (start rates (a / 6)) (rate_in rates (a / 6)) b exact)
