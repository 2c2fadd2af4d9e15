-- Properties of directed products and powers.
use Rattle.std.proofs.Common.{◌≡◌, ℕ, zero, suc, ◌+◌, ◌-◌, ◌*◌, ◌/◌, ◌^◌, ◌<◌, ◌≤◌, arith, add-one, refl, sym, ap, ◌∙◌, subst, inl, inr}
use Rattle.std.proofs.Math.Nat.{div-mul-le_self, lt-div-mul-add, lt_of_mul-lt-mul_left}
use Rattle.std.proofs.lemmas.Grind.{div_ceil_times}
use Rattle.std.proofs.lemmas.Nat.{pow_pos, pow-add, mul-le}
use Rattle.std.proofs.Math.Pow.{pow_mono}
use Rattle.ee_roots.specs.Products.{down, up, power_down, power_up}
use Rattle.ee_roots.specs.Roots.{IsLow, IsAbove}
use Rattle.std.proofs.lemmas.Bool.{cases_lt}

pub down_le : (b p q : ℕ) → down b p q * 2 ^ b ≤ p * q
down_le b p q = div-mul-le_self (p * q) (2 ^ b)

pub down_gt : (b p q : ℕ) → p * q < down b p q * 2 ^ b + 2 ^ b
down_gt b p q = lt-div-mul-add (pow_pos b)

pub up_ge : (b p q : ℕ) → p * q ≤ up b p q * 2 ^ b
up_ge b p q = (div_ceil_times (p * q) (2 ^ b) (pow_pos b)).0

pub up_lt : (b p q : ℕ) → up b p q * 2 ^ b < p * q + 2 ^ b
up_lt b p q = (div_ceil_times (p * q) (2 ^ b) (pow_pos b)).1

-- compares two quotients by their products
le_by_product : (s x y n : ℕ) → x * s ≤ n → n < y * s + s → x ≤ y
le_by_product s x y n h k =
    let e : s * x < s * (y + 1) = omega arith in omega (arith, lt_of_mul-lt-mul_left s e)

pub down-mono : (b p q p' q' : ℕ) → p ≤ p' → q ≤ q' → down b p q ≤ down b p' q'
down-mono b p q p' q' h k =
    let e : p * q ≤ p' * q' = mul-le p q p' q' h k in
    let l : down b p q * 2 ^ b ≤ p * q = down_le b p q in
    let m : p' * q' < down b p' q' * 2 ^ b + 2 ^ b = down_gt b p' q' in
    le_by_product (2 ^ b) (down b p q) (down b p' q') (p' * q') (omega arith) m

pub up-mono : (b p q p' q' : ℕ) → p ≤ p' → q ≤ q' → up b p q ≤ up b p' q'
up-mono b p q p' q' h k =
    let e : p * q ≤ p' * q' = mul-le p q p' q' h k in
    let l : up b p q * 2 ^ b < p * q + 2 ^ b = up_lt b p q in
    let m : p' * q' ≤ up b p' q' * 2 ^ b = up_ge b p' q' in
    let d : 2 ^ b * up b p q < 2 ^ b * (up b p' q' + 1) = omega arith in
    omega (arith, lt_of_mul-lt-mul_left (2 ^ b) d)

pub power_down-mono : (b p q k : ℕ) → p ≤ q → power_down b p k ≤ power_down b q k
unfolding power_down
power_down-mono b p q zero h = h
power_down-mono b p q (suc k) h = down-mono b (power_down b p k) p (power_down b q k) q (power_down-mono b p q k h) h

down-strict : (b p q p' q' : ℕ) → 2 ^ b ≤ q → p < p' → q ≤ q' → down b p q < down b p' q'
down-strict b p q p' q' one h k =
    let e : (p + 1) * q ≤ p' * q' = mul-le (p + 1) q p' q' (omega arith) k in
    let l : (down b p q + 1) * 2 ^ b ≤ p' * q' = omega (arith, down_le b p q, e, one) in
    omega (arith, le_by_product (2 ^ b) (down b p q + 1) (down b p' q') (p' * q') l (down_gt b p' q'))

-- among bases of at least one, a larger base has a larger power
pub power_down-strict : (b p q k : ℕ) → 2 ^ b ≤ p → p < q → power_down b p k < power_down b q k
unfolding power_down
power_down-strict b p q zero one h = h
power_down-strict b p q (suc k) one h =
    down-strict b (power_down b p k) p (power_down b q k) q one (power_down-strict b p q k one h) (omega arith)

pub power_up-mono : (b p q k : ℕ) → p ≤ q → power_up b p k ≤ power_up b q k
unfolding power_up
power_up-mono b p q zero h = h
power_up-mono b p q (suc k) h = up-mono b (power_up b p k) p (power_up b q k) q (power_up-mono b p q k h) h

-- ---- one, and numbers near it

pub down-one : (b : ℕ) → down b (2 ^ b) (2 ^ b) ≡ 2 ^ b
down-one b =
    let l = down_le b (2 ^ b) (2 ^ b) in
    let g = down_gt b (2 ^ b) (2 ^ b) in
    let one_le : 2 ^ b ≤ down b (2 ^ b) (2 ^ b) = le_by_product (2 ^ b) (2 ^ b) (down b (2 ^ b) (2 ^ b)) (2 ^ b * 2 ^ b) (omega arith) g in
    let le_one : down b (2 ^ b) (2 ^ b) ≤ 2 ^ b = le_by_product (2 ^ b) (down b (2 ^ b) (2 ^ b)) (2 ^ b) (2 ^ b * 2 ^ b) l (omega (arith, pow_pos b)) in
    omega arith

pub down-le-up : (b p q : ℕ) → down b p q ≤ up b p q
down-le-up b p q =
    le_by_product (2 ^ b) (down b p q) (up b p q) (p * q) (down_le b p q) (omega (arith, up_ge b p q, pow_pos b))

pub up-one : (b : ℕ) → up b (2 ^ b) (2 ^ b) ≡ 2 ^ b
up-one b =
    let g = up_ge b (2 ^ b) (2 ^ b) in
    let l : up b (2 ^ b) (2 ^ b) * 2 ^ b < 2 ^ b * 2 ^ b + 2 ^ b = up_lt b (2 ^ b) (2 ^ b) in
    let one_le : 2 ^ b ≤ up b (2 ^ b) (2 ^ b) = le_by_product (2 ^ b) (2 ^ b) (up b (2 ^ b) (2 ^ b)) (2 ^ b * 2 ^ b) (omega arith) (omega (arith, pow_pos b)) in
    let d : 2 ^ b * up b (2 ^ b) (2 ^ b) < 2 ^ b * (2 ^ b + 1) = omega arith in
    omega (arith, lt_of_mul-lt-mul_left (2 ^ b) d)

pub power_down-one : (b k : ℕ) → power_down b (2 ^ b) k ≡ 2 ^ b
unfolding power_down
power_down-one b zero = refl
power_down-one b (suc k) = rw (power_down-one b k) (down-one b)

pub power_up-one : (b k : ℕ) → power_up b (2 ^ b) k ≡ 2 ^ b
unfolding power_up
power_up-one b zero = refl
power_up-one b (suc k) = rw (power_up-one b k) (up-one b)

pub power_down-le-up : (b p k : ℕ) → power_down b p k ≤ power_up b p k
unfolding power_down power_up
power_down-le-up b p zero = omega arith
power_down-le-up b p (suc k) =
    let m : down b (power_down b p k) p ≤ down b (power_up b p k) p = down-mono b (power_down b p k) p (power_up b p k) p (power_down-le-up b p k) (omega arith) in
    let n : down b (power_up b p k) p ≤ up b (power_up b p k) p = down-le-up b (power_up b p k) p in
    omega (arith, m, n)

-- each product raises a power near one by less than a sixteenth of one
up-near : (s q p t c : ℕ) → 256 ≤ s → c ≤ 41 → 32 * p ≤ 33 * s → 32 * q ≤ c * s → t * s < q * p + s → 32 * t ≤ (c + 2) * s
up-near s q p t c big small near_p near_q bound =
    let m : (32 * q) * (32 * p) ≤ (c * s) * (33 * s) = mul-le (32 * q) (32 * p) (c * s) (33 * s) near_q near_p in
    let cs : c * s ≤ 41 * s = mul-le c s 41 s small (omega arith) in
    let d : s * (1024 * t) < s * (33 * (c * s) + 1024) = omega (arith, m, bound) in
    let e : 1024 * t < 33 * (c * s) + 1024 = lt_of_mul-lt-mul_left s d in
    omega (arith, e, cs, big)

pub one-ge-256 : (b : ℕ) → 8 ≤ b → 256 ≤ 2 ^ b
one-ge-256 b h = pow_mono h

pub power_up-near : (b p k : ℕ) → 8 ≤ b → k ≤ 5 → 32 * p ≤ 33 * 2 ^ b → 32 * power_up b p k ≤ (33 + 2 * k) * 2 ^ b
unfolding power_up
power_up-near b p zero h few near = omega (arith, near)
power_up-near b p (suc k) h few near =
    let ih : 32 * power_up b p k ≤ (33 + 2 * k) * 2 ^ b = power_up-near b p k h (omega arith) near in
    let step : 32 * up b (power_up b p k) p ≤ (33 + 2 * k + 2) * 2 ^ b =
    up-near (2 ^ b) (power_up b p k) p (up b (power_up b p k) p) (33 + 2 * k) (one-ge-256 b h) (omega arith) near ih (up_lt b (power_up b p k) p) in
    omega (arith, step)

-- ---- five products of 33 / 32 exceed 1.1

down-grows : (b k x q : ℕ) → 2 ^ b ≡ 32 * k → 32 ≤ x → x * k ≤ q → (x + 1) * k ≤ down b q (33 * k)
down-grows b k x q one big h =
    let s : k * k * 32 ≤ k * k * x = mul-le (k * k) 32 (k * k) x (omega arith) big in
    let m : (x * k) * (33 * k) ≤ q * (33 * k) = mul-le (x * k) (33 * k) q (33 * k) h (omega arith) in
    let l : (x + 1) * k * 2 ^ b ≤ q * (33 * k) = rw one (omega (arith, s, m)) in
    le_by_product (2 ^ b) ((x + 1) * k) (down b q (33 * k)) (q * (33 * k)) l (down_gt b q (33 * k))

power_down-grows : (b k j : ℕ) → 2 ^ b ≡ 32 * k → (33 + j) * k ≤ power_down b (33 * k) j
unfolding power_down
power_down-grows b k zero one = omega arith
power_down-grows b k (suc j) one =
    let g : (33 + j + 1) * k ≤ down b (power_down b (33 * k) j) (33 * k) =
    down-grows b k (33 + j) (power_down b (33 * k) j) one (omega arith) (power_down-grows b k j one) in
    omega (arith, g)

-- the sixth power of 33 / 32 exceeds that of each root
pub above_top : (b p r : ℕ) → 5 ≤ b → r ≤ 2000 → 32 * p ≡ 33 * 2 ^ b → 2 ^ b * (20000 + r) < power_down b p 5 * 20000
above_top b p r h small top =
    let k : ℕ = 2 ^ (b - 5) in
    let e : b ≡ 5 + (b - 5) = omega arith in
    let one : 2 ^ b ≡ 32 * 2 ^ (b - 5) = ap (λ n. 2 ^ n) e ∙ pow-add 2 5 (b - 5) in
    let same : p ≡ 33 * 2 ^ (b - 5) = omega arith in
    let g : 38 * 2 ^ (b - 5) ≤ power_down b (33 * 2 ^ (b - 5)) 5 = power_down-grows b (2 ^ (b - 5)) 5 one in
    let g' : 38 * 2 ^ (b - 5) ≤ power_down b p 5 = subst (λ n. 38 * 2 ^ (b - 5) ≤ power_down b n 5) (sym same) g in
    let m : 2 ^ b * (20000 + r) ≤ 2 ^ b * 22000 = mul-le (2 ^ b) (20000 + r) (2 ^ b) 22000 (omega arith) (omega arith) in
    omega (arith, m, one, g', pow_pos (b - 5))

-- ---- facts for the loops

pub power_up-none : (b p : ℕ) → power_up b p 0 ≡ p
unfolding power_up
power_up-none b p = refl

pub power_up-more : (b p k : ℕ) → power_up b p (k + 1) ≡ up b (power_up b p k) p
unfolding power_up
power_up-more b p k = rw add-one refl

pub power_down-none : (b p : ℕ) → power_down b p 0 ≡ p
unfolding power_down
power_down-none b p = refl

pub power_down-more : (b p k : ℕ) → power_down b p (k + 1) ≡ down b (power_down b p k) p
unfolding power_down
power_down-more b p k = rw add-one refl

pub power_up-small : (b p k : ℕ) → 8 ≤ b → b ≤ 62 → k ≤ 5 → 32 * p ≤ 33 * 2 ^ b → power_up b p k < 2 ^ 63
power_up-small b p k big small few near =
    let n = power_up-near b p k big few near in
    let top : 2 ^ b ≤ 2 ^ 62 = pow_mono small in
    let m : (33 + 2 * k) * 2 ^ b ≤ 43 * 2 ^ 62 = mul-le (33 + 2 * k) (2 ^ b) 43 (2 ^ 62) (omega arith) top in
    omega (arith, n, m)

pub power_down-small : (b p k : ℕ) → 8 ≤ b → b ≤ 62 → k ≤ 5 → 32 * p ≤ 33 * 2 ^ b → power_down b p k < 2 ^ 63
power_down-small b p k big small few near =
    omega (arith, power_down-le-up b p k, power_up-small b p k big small few near)

pub near-small : (b p : ℕ) → b ≤ 62 → 32 * p ≤ 33 * 2 ^ b → p < 2 ^ 63
near-small b p small near =
    let top : 2 ^ b ≤ 2 ^ 62 = pow_mono small in omega (arith, top, near)

-- ---- a binary search

pub one-div-32 : (b : ℕ) → 5 ≤ b → 32 * (2 ^ b + 2 ^ b / 32) ≡ 33 * 2 ^ b
one-div-32 b h =
    let e : b ≡ (b - 5) + 5 = omega arith in
    let one : 2 ^ b ≡ 2 ^ (b - 5) * 2 ^ 5 = ap (λ n. 2 ^ n) e ∙ pow-add 2 (b - 5) 5 in
    omega (arith, one)

pub one_fits : (b r s w : ℕ) → s ≡ 2 ^ b → w ≡ 2 ^ b * (20000 + r) → power_up b s 5 * 20000 ≤ w
one_fits b r s w one wanted =
    let e : power_up b s 5 ≡ 2 ^ b = ap (λ n. power_up b n 5) one ∙ power_up-one b 5 in omega arith

pub top_reaches : (b r s w : ℕ) → 8 ≤ b → r ≤ 2000 → s ≡ 2 ^ b → w ≡ 2 ^ b * (20000 + r) → w < power_down b (s + s / 32) 5 * 20000
top_reaches b r s w big small one wanted =
    let t : 32 * (s + s / 32) ≡ 33 * 2 ^ b = rw one (one-div-32 b (omega arith)) in
    omega (arith, above_top b (s + s / 32) r (omega arith) small t)

pub top_exceeds : (b r s w : ℕ) → 8 ≤ b → r ≤ 2000 → s ≡ 2 ^ b → w ≡ 2 ^ b * (20000 + r) → w < power_up b (s + s / 32) 5 * 20000
top_exceeds b r s w big small one wanted =
    omega (arith, top_reaches b r s w big small one wanted, power_down-le-up b (s + s / 32) 5)

pub IsLow-from_next : (b r p above w : ℕ) → w ≡ 2 ^ b * (20000 + r) → 2 ^ b ≤ p → above ≤ p + 1
    → power_up b p 5 * 20000 ≤ w → w < power_up b above 5 * 20000 → IsLow b r p
IsLow-from_next b r p above w wanted from_one next fits exceeds = (
  from_one,
  omega arith,
  λ q h. elim (cases_lt p q) [
    | inl lt ↦ absurd (omega (arith, h, power_up-mono b above q 5 (omega arith)))
    | inr le ↦ le
  ],
)

-- ---- stepping up from the low bound

-- p is at most each number, from one on, whose power rounded down reaches the target
abbrev pub IsAtMostHigh : ℕ → ℕ → ℕ → Type 0
IsAtMostHigh b r p = (q : ℕ) → 2 ^ b ≤ q → IsAbove b r q → p ≤ q

pub low-at_most_high : (b r low : ℕ) → IsLow b r low → IsAtMostHigh b r low
low-at_most_high b r low l q one h =
    elim (cases_lt q low) [
      | inl lt ↦ absurd (omega (arith, l.1, h, power_down-strict b q low 5 one lt, power_down-le-up b low 5))
      | inr le ↦ le
    ]

pub next-at_most_high : (b r p w : ℕ) → w ≡ 2 ^ b * (20000 + r) → power_down b p 5 * 20000 < w → IsAtMostHigh b r p → IsAtMostHigh b r (p + 1)
next-at_most_high b r p w wanted misses least q one h =
    elim (cases_lt p q) [
      | inl lt ↦ omega arith
      | inr le ↦
          let same : q ≡ p = omega (arith, le, least q one h) in
          let here : 2 ^ b * (20000 + r) ≤ power_down b p 5 * 20000 = subst (λ n. IsAbove b r n) same h in
          absurd (omega (arith, here))
    ]

pub near-from_least : (b r p : ℕ) → 8 ≤ b → r ≤ 2000 → IsAtMostHigh b r p → 32 * p ≤ 33 * 2 ^ b
near-from_least b r p big small least =
    let top = top_reaches b r (2 ^ b) (2 ^ b * (20000 + r)) big small refl refl in
    let le : p ≤ 2 ^ b + 2 ^ b / 32 = least (2 ^ b + 2 ^ b / 32) (omega arith) (omega (arith, top)) in
    omega (arith, le, one-div-32 b (omega arith))
