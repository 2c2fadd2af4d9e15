-- Rounding to the nearest cent by sixth powers.
use Rattle.std.proofs.Common.{◌≡◌, ◌≢◌, ℕ, zero, suc, ◌+◌, ◌-◌, ◌*◌, ◌/◌, ◌^◌, ◌<◌, ◌≤◌, Bool, true, false, nat_le, arith, refl, ap, ◌∙◌, inl, inr}
use Rattle.std.proofs.Math.Nat.{mul-le-mul_left, pow-suc, pow-zero, pow-le-pow_left, pow-lt-pow_left, one-le-pow, mul-lt-mul_of_pos_left}
use Rattle.std.proofs.lemmas.Nat.{mul-pow, mul-le}
use Rattle.std.specs.Prelude.{if◌then◌else◌}
use Rattle.std.proofs.Math.Pow.{pow_mono}
use Rattle.std.proofs.lemmas.Bool.{cases_lt, le-leb, lt-leb, leb-true}
use Rattle.ee_value.specs.Rounding.{Rounds, greatest, grown}
use Rattle.ee_roots.proofs.Lemmas.{sixth_lt}

-- ---- the greatest number that satisfies a test

pub greatest-is : (test : ℕ → Bool) (n p : ℕ) → p ≤ n → test p ≡ true → ((q : ℕ) → p < q → test q ≡ false) → greatest test n ≡ p
unfolding greatest
greatest-is test zero p h passes fails = omega arith
greatest-is test (suc n) p h passes fails =
    elim (cases_lt n p) [
      | inl top ↦
          let e : suc n ≡ p = omega arith in
          let t : test (suc n) ≡ true = ap test e ∙ passes in rw t e
      | inr below ↦
          let lt : p < suc n = omega arith in
          let f : test (suc n) ≡ false = fails (suc n) lt in rw f (greatest-is test n p below passes fails)
    ]

-- ---- Rounds has at most one answer, and `grown` is it

sixth_le : (m n : ℕ) → m ≤ n → m ^ 6 ≤ n ^ 6
sixth_le m n h = pow-le-pow_left h 6

Rounds-above : (u r m c d : ℕ) → Rounds u r m c → c < d → (2 * u) ^ 6 * (20000 + r) ^ m < (2 * d - 1) ^ 6 * 20000 ^ m
Rounds-above u r m c d h lt =
    let s : (2 * c + 1) ^ 6 ≤ (2 * d - 1) ^ 6 = sixth_le (2 * c + 1) (2 * d - 1) (omega arith) in
    let t : (2 * c + 1) ^ 6 * 20000 ^ m ≤ (2 * d - 1) ^ 6 * 20000 ^ m = mul-le ((2 * c + 1) ^ 6) (20000 ^ m) ((2 * d - 1) ^ 6) (20000 ^ m) s (omega arith) in
    omega (arith, t, h.2)

pub Rounds-unique : (u r m c d : ℕ) → Rounds u r m c → Rounds u r m d → c ≡ d
Rounds-unique u r m c d h k =
    elim (cases_lt c d) [
      | inl lt ↦ absurd (omega (arith, Rounds-above u r m c d h lt, k.1))
      | inr le ↦ elim (cases_lt d c) [
        | inl lt ↦ absurd (omega (arith, Rounds-above u r m d c k lt, h.1))
        | inr ge ↦ omega arith
      ]
    ]

-- ---- the answer is small

pub factor-le : (r m : ℕ) → m ≤ 6 → r ≤ 2000 → (20000 + r) ^ m ≤ 64 * 20000 ^ m
factor-le r m h k =
    let le : 20000 + r ≤ 2 * 20000 = omega arith in
    let a : (20000 + r) ^ m ≤ (2 * 20000) ^ m = pow-le-pow_left le m in
    let b : (2 * 20000) ^ m ≡ 2 ^ m * 20000 ^ m = mul-pow 2 20000 m in
    let d : 2 ^ m ≤ 2 ^ 6 = pow_mono h in
    let e : 2 ^ m * 20000 ^ m ≤ 64 * 20000 ^ m = mul-le (2 ^ m) (20000 ^ m) 64 (20000 ^ m) (omega arith) (omega arith) in
    omega (arith, a, b, e)

Rounds-small : (u r m c : ℕ) → m ≤ 6 → r ≤ 2000 → Rounds u r m c → c ≤ 2 * u
Rounds-small u r m c few small h =
    elim (cases_lt (2 * u) c) [
      | inl lt ↦
          let four : 4 * u < 2 * c - 1 = omega arith in
          let a : (4 * u) ^ 6 < (2 * c - 1) ^ 6 = sixth_lt (4 * u) (2 * c - 1) four in
          let same : 4 * u ≡ 2 * (2 * u) = omega arith in
          let b : (4 * u) ^ 6 ≡ 64 * (2 * u) ^ 6 = ap (λ x. x ^ 6) same ∙ mul-pow 2 (2 * u) 6 in
          let some : 0 < 20000 ^ m = one-le-pow m 20000 (omega arith) in
          let d : 20000 ^ m * (64 * (2 * u) ^ 6) < 20000 ^ m * (2 * c - 1) ^ 6 = mul-lt-mul_of_pos_left (omega (arith, a, b)) some in
          let e : (2 * u) ^ 6 * (20000 + r) ^ m ≤ (2 * u) ^ 6 * (64 * 20000 ^ m) = mul-le-mul_left ((2 * u) ^ 6) (factor-le r m few small) in
          absurd (omega (arith, d, e, h.1))
      | inr le ↦ le
    ]

pub grown-is : (u r m c : ℕ) → m ≤ 6 → r ≤ 2000 → Rounds u r m c → grown u r m ≡ c
unfolding grown
grown-is u r m c few small h =
    greatest-is (λ d. nat_le ((2 * d - 1) ^ 6 * 20000 ^ m) ((2 * u) ^ 6 * (20000 + r) ^ m)) (2 * u) c
    (Rounds-small u r m c few small h)
    (le-leb _ _ h.1)
    (λ d lt. lt-leb _ _ (Rounds-above u r m c d h lt))

-- ---- whole half-years

-- the part that is linear in the unit
pub Rounds-linear : (u r c : ℕ) → 1 ≤ c → (2 * c - 1) * 20000 ≤ 2 * u * (20000 + r) → 2 * u * (20000 + r) < (2 * c + 1) * 20000 → Rounds u r 6 c
Rounds-linear u r c some low high =
    let x : (2 * u * (20000 + r)) ^ 6 ≡ (2 * u) ^ 6 * (20000 + r) ^ 6 = mul-pow (2 * u) (20000 + r) 6 in
    let y : ((2 * c - 1) * 20000) ^ 6 ≡ (2 * c - 1) ^ 6 * 20000 ^ 6 = mul-pow (2 * c - 1) 20000 6 in
    let z : ((2 * c + 1) * 20000) ^ 6 ≡ (2 * c + 1) ^ 6 * 20000 ^ 6 = mul-pow (2 * c + 1) 20000 6 in
    let l : ((2 * c - 1) * 20000) ^ 6 ≤ (2 * u * (20000 + r)) ^ 6 = sixth_le ((2 * c - 1) * 20000) (2 * u * (20000 + r)) low in
    let h : (2 * u * (20000 + r)) ^ 6 < ((2 * c + 1) * 20000) ^ 6 = sixth_lt (2 * u * (20000 + r)) ((2 * c + 1) * 20000) high in
    (some, omega (arith, x, y, l), omega (arith, x, z, h))

-- the nearest whole number, by one division
abbrev pub linear : ℕ → ℕ → ℕ
linear u r = (2 * u * (20000 + r) + 20000) / 40000

pub Rounds-half_year : (u r : ℕ) → 1 ≤ u → Rounds u r 6 (linear u r)
Rounds-half_year u r some =
    let p : 1 * 20000 ≤ u * (20000 + r) = mul-le 1 20000 u (20000 + r) some (omega arith) in
    Rounds-linear u r (linear u r) (omega (arith, p)) (omega (arith, p)) (omega (arith, p))

pub grown-half_year : (u r : ℕ) → 1 ≤ u → r ≤ 2000 → grown u r 6 ≡ linear u r
grown-half_year u r some small = grown-is u r 6 (linear u r) (omega arith) small (Rounds-half_year u r some)

pub Rounds-none : (u r : ℕ) → 1 ≤ u → Rounds u r 0 u
Rounds-none u r some =
    let a : (2 * u - 1) ^ 6 < (2 * u) ^ 6 = sixth_lt (2 * u - 1) (2 * u) (omega arith) in
    let b : (2 * u) ^ 6 < (2 * u + 1) ^ 6 = sixth_lt (2 * u) (2 * u + 1) (omega arith) in
    (some, rw (pow-zero 20000, pow-zero (20000 + r)) (omega (arith, a)), rw (pow-zero 20000, pow-zero (20000 + r)) (omega (arith, b)))

pub grown-none : (u r : ℕ) → 1 ≤ u → r ≤ 2000 → grown u r 0 ≡ u
grown-none u r some small = grown-is u r 0 u (omega arith) small (Rounds-none u r some)

-- an exact half cent rounds up
pub Rounds-half : (u r m c : ℕ) → 1 ≤ c → (2 * u) ^ 6 * (20000 + r) ^ m ≡ (2 * c - 1) ^ 6 * 20000 ^ m → Rounds u r m c
Rounds-half u r m c some half =
    let lt : (2 * c - 1) ^ 6 < (2 * c + 1) ^ 6 = sixth_lt (2 * c - 1) (2 * c + 1) (omega arith) in
    let t : 0 < 20000 ^ m = one-le-pow m 20000 (omega arith) in
    let d : 20000 ^ m * (2 * c - 1) ^ 6 < 20000 ^ m * (2 * c + 1) ^ 6 = mul-lt-mul_of_pos_left lt t in
    (some, omega (arith, half), omega (arith, half, d))

-- ---- `grown` is monotonic

pub greatest-le : (test : ℕ → Bool) (n : ℕ) → greatest test n ≤ n
unfolding greatest
greatest-le test zero = omega arith
greatest-le test (suc n) =
    elim (test (suc n)) as (λ b. (if b then suc n else greatest test n) ≤ suc n) [ true ↦ omega arith | false ↦ omega (arith, greatest-le test n) ]

pub greatest-ge : (test : ℕ → Bool) (n p : ℕ) → p ≤ n → test p ≡ true → p ≤ greatest test n
unfolding greatest
greatest-ge test zero p h passes = h
greatest-ge test (suc n) p h passes =
    elim (cases_lt n p) [
      | inl top ↦
          let e : suc n ≡ p = omega arith in
          let t : test (suc n) ≡ true = ap test e ∙ passes in rw t h
      | inr below ↦
          elim (test (suc n)) as (λ b. p ≤ (if b then suc n else greatest test n)) [ true ↦ h | false ↦ greatest-ge test n p below passes ]
    ]

passes_by : (test : ℕ → Bool) (n : ℕ) (b : Bool) → test (suc n) ≡ b → (1 ≤ greatest test n → test (greatest test n) ≡ true)
    → 1 ≤ (if b then suc n else greatest test n) → test (if b then suc n else greatest test n) ≡ true
passes_by test n true e rest h = e
passes_by test n false e rest h = rest h

-- `greatest` returns a number that satisfies the test, unless none does
pub greatest-passes : (test : ℕ → Bool) (n : ℕ) → 1 ≤ greatest test n → test (greatest test n) ≡ true
unfolding greatest
greatest-passes test zero h = absurd (omega (arith, h))
greatest-passes test (suc n) h = passes_by test n (test (suc n)) refl (greatest-passes test n) h

pub greatest-mono : (test test' : ℕ → Bool) (n : ℕ) → ((c : ℕ) → test c ≡ true → test' c ≡ true) → greatest test n ≤ greatest test' n
greatest-mono test test' n weaker =
    elim (cases_lt (greatest test n) 1) [
      | inl none ↦ omega arith
      | inr some ↦ greatest-ge test' n (greatest test n) (greatest-le test n) (weaker (greatest test n) (greatest-passes test n some))
    ]

pub grown-le : (u r m : ℕ) → grown u r m ≤ 2 * u
unfolding grown
grown-le u r m = greatest-le (λ c. nat_le ((2 * c - 1) ^ 6 * 20000 ^ m) ((2 * u) ^ 6 * (20000 + r) ^ m)) (2 * u)

pub grown-ge : (u r m : ℕ) → u ≤ grown u r m
unfolding grown
grown-ge u r m =
    let le : 20000 ≤ 20000 + r = omega arith in
    let less : 2 * u - 1 ≤ 2 * u = omega arith in
    let a : 20000 ^ m ≤ (20000 + r) ^ m = pow-le-pow_left le m in
    let b : (2 * u - 1) ^ 6 ≤ (2 * u) ^ 6 = pow-le-pow_left less 6 in
    greatest-ge (λ c. nat_le ((2 * c - 1) ^ 6 * 20000 ^ m) ((2 * u) ^ 6 * (20000 + r) ^ m)) (2 * u) u (omega arith)
    (le-leb _ _ (mul-le ((2 * u - 1) ^ 6) (20000 ^ m) ((2 * u) ^ 6) ((20000 + r) ^ m) b a))

pub grown-next : (u r m : ℕ) → grown u r m ≤ grown u r (suc m)
unfolding grown
grown-next u r m =
    greatest-mono (λ c. nat_le ((2 * c - 1) ^ 6 * 20000 ^ m) ((2 * u) ^ 6 * (20000 + r) ^ m))
    (λ c. nat_le ((2 * c - 1) ^ 6 * 20000 ^ suc m) ((2 * u) ^ 6 * (20000 + r) ^ suc m)) (2 * u)
    (λ c h.
    let k = leb-true _ _ h in
    let g : (2 * c - 1) ^ 6 * 20000 ^ m * 20000 ≤ (2 * u) ^ 6 * (20000 + r) ^ m * (20000 + r) =
    mul-le ((2 * c - 1) ^ 6 * 20000 ^ m) 20000 ((2 * u) ^ 6 * (20000 + r) ^ m) (20000 + r) k (omega arith) in
    le-leb _ _ (rw (pow-suc 20000 m, pow-suc (20000 + r) m) (omega (arith, g))))

-- ---- `grown` is the c of `Rounds`

above_twice : (u r m : ℕ) → 1 ≤ u → m ≤ 6 → r ≤ 2000 → (2 * u) ^ 6 * (20000 + r) ^ m < (2 * (2 * u) + 1) ^ 6 * 20000 ^ m
above_twice u r m some few small =
    let six : 6 ≢ 0 = omega arith in
    let lt : 4 * u < 2 * (2 * u) + 1 = omega arith in
    let a : (4 * u) ^ 6 < (2 * (2 * u) + 1) ^ 6 = pow-lt-pow_left lt six in
    let same : 4 * u ≡ 2 * (2 * u) = omega arith in
    let b : (4 * u) ^ 6 ≡ 64 * (2 * u) ^ 6 = ap (λ x. x ^ 6) same ∙ mul-pow 2 (2 * u) 6 in
    let t : 0 < 20000 ^ m = one-le-pow m 20000 (omega arith) in
    let d : 20000 ^ m * (64 * (2 * u) ^ 6) < 20000 ^ m * (2 * (2 * u) + 1) ^ 6 = mul-lt-mul_of_pos_left (omega (arith, a, b)) t in
    let e : (2 * u) ^ 6 * (20000 + r) ^ m ≤ (2 * u) ^ 6 * (64 * 20000 ^ m) = mul-le-mul_left ((2 * u) ^ 6) (factor-le r m few small) in
    omega (arith, d, e)

pub Rounds-grown : (u r m : ℕ) → 1 ≤ u → m ≤ 6 → r ≤ 2000 → Rounds u r m (grown u r m)
unfolding grown
Rounds-grown u r m some few small =
    let test : ℕ → Bool = λ c. nat_le ((2 * c - 1) ^ 6 * 20000 ^ m) ((2 * u) ^ 6 * (20000 + r) ^ m) in
    let ge : u ≤ grown u r m = grown-ge u r m in
    let le : grown u r m ≤ 2 * u = grown-le u r m in
    let one : 1 ≤ grown u r m = omega arith in (
      one,
      leb-true _ _ (greatest-passes test (2 * u) one),
      elim (cases_lt (grown u r m) (2 * u)) [
        | inl below ↦
            elim (cases_lt ((2 * u) ^ 6 * (20000 + r) ^ m) ((2 * grown u r m + 1) ^ 6 * 20000 ^ m)) [
              | inl lt ↦ lt
              | inr no' ↦
                  let e : 2 * (grown u r m + 1) - 1 ≡ 2 * grown u r m + 1 = omega arith in
                  let p : (2 * (grown u r m + 1) - 1) ^ 6 * 20000 ^ m ≤ (2 * u) ^ 6 * (20000 + r) ^ m = rw e no' in
                  absurd (omega (arith, greatest-ge test (2 * u) (grown u r m + 1) (omega arith) (le-leb _ _ p)))
            ]
        | inr top ↦
            let e : grown u r m ≡ 2 * u = omega arith in
            rw e (above_twice u r m some few small)
      ],
    )
