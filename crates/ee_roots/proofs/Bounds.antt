-- How far directed powers are from exact ones, and from each other.
use Rattle.std.proofs.Common.{◌≡◌, ◌≢◌, ℕ, zero, suc, ◌+◌, ◌-◌, ◌*◌, ◌^◌, ◌<◌, ◌≤◌, arith, add-one, zero-mul, sym, ap, ◌∙◌, subst, inl, inr}
use Rattle.std.proofs.Math.Nat.{mul-le-mul_left, lt_of_mul-lt-mul_left, pow-suc, pow-zero, one-mul, pow-le-pow_left, pow-lt-pow_left, one-le-pow, mul-lt-mul_of_pos_left}
use Rattle.std.proofs.lemmas.Nat.{pow_pos, pow-add, mul-le}
use Rattle.std.proofs.lemmas.Bool.{cases_lt}
use Rattle.ee_roots.specs.Products.{down, up, power_down, power_up}
use Rattle.ee_roots.specs.Roots.{IsLow, IsHigh, Encloses}
use Rattle.ee_roots.proofs.Directed.{power_up-none, power_down-none, down_le, down_gt, up_ge, up_lt, power_down-le-up, power_up-near}

pow-one : (n : ℕ) → n ^ (0 + 1) ≡ n
pow-one n = pow-suc n 0 ∙ ap (λ x. x * n) (pow-zero n) ∙ one-mul n

pow-next : (n k : ℕ) → n ^ (suc k + 1) ≡ n ^ (k + 1) * n
pow-next n k =
    let e : suc k + 1 ≡ suc (k + 1) = omega arith in ap (λ x. n ^ x) e ∙ pow-suc n (k + 1)

pow-next_one : (n k : ℕ) → n ^ (k + 1) ≡ n ^ k * n
pow-next_one n k = ap (λ x. n ^ x) (add-one k) ∙ pow-suc n k

-- ---- a directed power beside the exact one

pub power_up-ge : (b p k : ℕ) → p ^ (k + 1) ≤ power_up b p k * (2 ^ b) ^ k
unfolding power_up
power_up-ge b p zero = rw (pow-zero (2 ^ b), pow-one p) (omega (arith, power_up-none b p))
power_up-ge b p (suc k) =
    let m : p ^ (k + 1) * p ≤ power_up b p k * (2 ^ b) ^ k * p = mul-le (p ^ (k + 1)) p (power_up b p k * (2 ^ b) ^ k) p (power_up-ge b p k) (omega arith) in
    let n : (2 ^ b) ^ k * (power_up b p k * p) ≤ (2 ^ b) ^ k * (up b (power_up b p k) p * 2 ^ b) = mul-le-mul_left ((2 ^ b) ^ k) (up_ge b (power_up b p k) p) in
    rw (pow-next p k, pow-suc (2 ^ b) k) (omega (arith, m, n))

pub power_down-le : (b p k : ℕ) → power_down b p k * (2 ^ b) ^ k ≤ p ^ (k + 1)
unfolding power_down
power_down-le b p zero = rw (pow-zero (2 ^ b), pow-one p) (omega (arith, power_down-none b p))
power_down-le b p (suc k) =
    let m : power_down b p k * (2 ^ b) ^ k * p ≤ p ^ (k + 1) * p = mul-le (power_down b p k * (2 ^ b) ^ k) p (p ^ (k + 1)) p (power_down-le b p k) (omega arith) in
    let n : (2 ^ b) ^ k * (down b (power_down b p k) p * 2 ^ b) ≤ (2 ^ b) ^ k * (power_down b p k * p) = mul-le-mul_left ((2 ^ b) ^ k) (down_le b (power_down b p k) p) in
    rw (pow-next p k, pow-suc (2 ^ b) k) (omega (arith, m, n))

-- five products rounded up exceed the exact power by less than one more unit in the root does
pub power_up-le_next : (b p k : ℕ) → 2 ^ b ≤ p + 1 → power_up b p k * (2 ^ b) ^ k ≤ (p + 1) ^ (k + 1)
unfolding power_up
power_up-le_next b p zero h = rw (pow-zero (2 ^ b), pow-one (p + 1)) (omega (arith, power_up-none b p))
power_up-le_next b p (suc k) h =
    let s = 2 ^ b in
    let m : power_up b p k * (2 ^ b) ^ k * p ≤ (p + 1) ^ (k + 1) * p = mul-le (power_up b p k * (2 ^ b) ^ k) p ((p + 1) ^ (k + 1)) p (power_up-le_next b p k h) (omega arith) in
    let n : (2 ^ b) ^ k * (up b (power_up b p k) p * 2 ^ b) ≤ (2 ^ b) ^ k * (power_up b p k * p + 2 ^ b) = mul-le-mul_left ((2 ^ b) ^ k) (omega (arith, up_lt b (power_up b p k) p)) in
    let o : (2 ^ b) ^ (k + 1) ≤ (p + 1) ^ (k + 1) = pow-le-pow_left h (k + 1) in
    rw (pow-next (p + 1) k, pow-suc (2 ^ b) k) (omega (arith, m, n, o, pow-next_one (2 ^ b) k))

-- five products rounded down fall below the exact power by less than one unit less in the root does
pub power_down-ge_before : (b p k : ℕ) → 2 ^ b ≤ p → p ^ (k + 1) ≤ power_down b (p + 1) k * (2 ^ b) ^ k
unfolding power_down
power_down-ge_before b p zero h = rw (pow-zero (2 ^ b), pow-one p) (omega (arith, power_down-none b (p + 1)))
power_down-ge_before b p (suc k) h =
    let m : p ^ (k + 1) * (p + 1) ≤ power_down b (p + 1) k * (2 ^ b) ^ k * (p + 1) = mul-le (p ^ (k + 1)) (p + 1) (power_down b (p + 1) k * (2 ^ b) ^ k) (p + 1) (power_down-ge_before b p k h) (omega arith) in
    let n : (2 ^ b) ^ k * (power_down b (p + 1) k * (p + 1)) ≤ (2 ^ b) ^ k * (down b (power_down b (p + 1) k) (p + 1) * 2 ^ b + 2 ^ b) = mul-le-mul_left ((2 ^ b) ^ k) (omega (arith, down_gt b (power_down b (p + 1) k) (p + 1))) in
    let o : (2 ^ b) ^ (k + 1) ≤ p ^ (k + 1) = pow-le-pow_left h (k + 1) in
    rw (pow-next p k, pow-suc (2 ^ b) k) (omega (arith, m, n, o, pow-next_one (2 ^ b) k))

-- ---- the bounds enclose the root, and are close together

pub pow-pow : (n i j : ℕ) → n ^ (i * j) ≡ (n ^ j) ^ i
pow-pow n zero j = ap (λ k. n ^ k) (zero-mul j) ∙ pow-zero n ∙ sym (pow-zero (n ^ j))
pow-pow n (suc i) j =
    let e : suc i * j ≡ i * j + j = omega arith in
    ap (λ k. n ^ k) e ∙ pow-add n (i * j) j ∙ ap (λ x. x * n ^ j) (pow-pow n i j) ∙ sym (pow-suc (n ^ j) i)

pub Encloses-from_root : (b r low high : ℕ) → IsLow b r low → IsHigh b r high → Encloses b r low high
Encloses-from_root b r low high l h =
    let s6 : 2 ^ (6 * b) ≡ (2 ^ b) ^ 6 = pow-pow 2 6 b in
    let t : (2 ^ b) ^ 6 ≡ (2 ^ b) ^ 5 * 2 ^ b = pow-suc (2 ^ b) 5 in
    let u : low ^ 6 ≤ power_up b low 5 * (2 ^ b) ^ 5 = power_up-ge b low 5 in
    let v : (2 ^ b) ^ 5 * (power_up b low 5 * 20000) ≤ (2 ^ b) ^ 5 * (2 ^ b * (20000 + r)) = mul-le-mul_left ((2 ^ b) ^ 5) l.1 in
    let x : power_down b high 5 * (2 ^ b) ^ 5 ≤ high ^ 6 = power_down-le b high 5 in
    let y : (2 ^ b) ^ 5 * (2 ^ b * (20000 + r)) ≤ (2 ^ b) ^ 5 * (power_down b high 5 * 20000) = mul-le-mul_left ((2 ^ b) ^ 5) h.1 in
    (rw (s6, t) (omega (arith, u, v)), rw (s6, t) (omega (arith, x, y)))

-- two more than the low bound is too large, even for the exact power
low_next : (b r low : ℕ) → IsLow b r low → 2 ^ (6 * b) * (20000 + r) < (low + 2) ^ 6 * 20000
low_next b r low l =
    let s6 : 2 ^ (6 * b) ≡ (2 ^ b) ^ 6 = pow-pow 2 6 b in
    let t : (2 ^ b) ^ 6 ≡ (2 ^ b) ^ 5 * 2 ^ b = pow-suc (2 ^ b) 5 in
    let over : 2 ^ b * (20000 + r) < power_up b (low + 1) 5 * 20000 =
    elim (cases_lt (2 ^ b * (20000 + r)) (power_up b (low + 1) 5 * 20000)) [ inl lt ↦ lt | inr le ↦ absurd (omega (arith, l.2 (low + 1) le)) ] in
    let u : power_up b (low + 1) 5 * (2 ^ b) ^ 5 ≤ (low + 1 + 1) ^ 6 = power_up-le_next b (low + 1) 5 (omega (arith, l.0)) in
    let two : low + 1 + 1 ≡ low + 2 = omega arith in
    let u' : power_up b (low + 1) 5 * (2 ^ b) ^ 5 ≤ (low + 2) ^ 6 = rw two at u in
    let pos : 0 < (2 ^ b) ^ 5 = one-le-pow 5 (2 ^ b) (pow_pos b) in
    let v : (2 ^ b) ^ 5 * (2 ^ b * (20000 + r)) < (2 ^ b) ^ 5 * (power_up b (low + 1) 5 * 20000) = mul-lt-mul_of_pos_left over pos in
    rw (s6, t) (omega (arith, u', v))

-- two less than the high bound is too small, even for the exact power
high_before : (b r n : ℕ) → 2 ^ b ≤ n → IsHigh b r (n + 2) → n ^ 6 * 20000 < 2 ^ (6 * b) * (20000 + r)
high_before b r n from_one h =
    let s6 : 2 ^ (6 * b) ≡ (2 ^ b) ^ 6 = pow-pow 2 6 b in
    let t : (2 ^ b) ^ 6 ≡ (2 ^ b) ^ 5 * 2 ^ b = pow-suc (2 ^ b) 5 in
    let under : power_down b (n + 1) 5 * 20000 < 2 ^ b * (20000 + r) =
    elim (cases_lt (power_down b (n + 1) 5 * 20000) (2 ^ b * (20000 + r))) [ inl lt ↦ lt | inr le ↦ absurd (omega (arith, h.2 (n + 1) (omega arith) le)) ] in
    let u : n ^ 6 ≤ power_down b (n + 1) 5 * (2 ^ b) ^ 5 = power_down-ge_before b n 5 from_one in
    let pos : 0 < (2 ^ b) ^ 5 = one-le-pow 5 (2 ^ b) (pow_pos b) in
    let v : (2 ^ b) ^ 5 * (power_down b (n + 1) 5 * 20000) < (2 ^ b) ^ 5 * (2 ^ b * (20000 + r)) = mul-lt-mul_of_pos_left under pos in
    rw (s6, t) (omega (arith, u, v))

sixth_below : (m n : ℕ) → m ^ 6 < n ^ 6 → m < n
sixth_below m n h = elim (cases_lt m n) [ inl lt ↦ lt | inr le ↦ absurd (omega (arith, h, pow-le-pow_left le 6)) ]

pub sixth_lt : (m n : ℕ) → m < n → m ^ 6 < n ^ 6
sixth_lt m n h = let some : 6 ≢ 0 = omega arith in pow-lt-pow_left h some

sixth_le : (m n : ℕ) → m ^ 6 ≤ n ^ 6 → m ≤ n
sixth_le m n h =
    elim (cases_lt n m) [ inl lt ↦ absurd (omega (arith, h, sixth_lt n m lt)) | inr le ↦ le ]

-- the bounds differ by at most three
pub high-le : (b r low high : ℕ) → IsLow b r low → IsHigh b r high → high ≤ low + 3
high-le b r low high l h =
    elim (cases_lt high (2 ^ b + 2)) [
      | inl near ↦ omega (arith, l.0)
      | inr far ↦
          let e : high ≡ (high - 2) + 2 = omega arith in
          let h' : IsHigh b r ((high - 2) + 2) = subst (λ n. IsHigh b r n) e h in
          let x : (high - 2) ^ 6 * 20000 < 2 ^ (6 * b) * (20000 + r) = high_before b r (high - 2) (omega arith) h' in
          let y = low_next b r low l in
          let z : (high - 2) ^ 6 < (low + 2) ^ 6 = omega (arith, x, y) in
          omega (arith, sixth_below (high - 2) (low + 2) z)
    ]

pub low-le_high : (b r low high : ℕ) → IsLow b r low → IsHigh b r high → low ≤ high
low-le_high b r low high l h =
    let e = Encloses-from_root b r low high l h in
    let z : low ^ 6 ≤ high ^ 6 = omega (arith, e.0, e.1) in sixth_le low high z

-- ---- powers of the bounds

-- one product adds at most six to the difference
apart-step : (s p q l h l' h' k : ℕ) → k ≤ 4 → 0 < s → q ≤ p + 3 → 32 * q ≤ 33 * s → 32 * l ≤ (33 + 2 * k) * s
    → h ≤ l + (3 + 6 * k) → h' * s < h * q + s → l * p < l' * s + s → h' ≤ l' + (9 + 6 * k)
apart-step s p q l h l' h' k few some close near_q near_l apart up_bound down_bound =
    let a : h * q ≤ (l + (3 + 6 * k)) * q = mul-le h q (l + (3 + 6 * k)) q apart (omega arith) in
    let c : l * q ≤ l * (p + 3) = mul-le-mul_left l close in
    let d : (3 + 6 * k) * (32 * q) ≤ (3 + 6 * k) * (33 * s) = mul-le-mul_left (3 + 6 * k) near_q in
    let ks : k * s ≤ 4 * s = mul-le k s 4 s few (omega arith) in
    let e : s * (32 * h') < s * (32 * (l' + (9 + 6 * k) + 1)) = omega (arith, a, c, d, ks, up_bound, down_bound, near_l) in
    omega (arith, lt_of_mul-lt-mul_left s e)

pub powers_apart : (b p q k : ℕ) → 8 ≤ b → k ≤ 4 → p ≤ q → q ≤ p + 3 → 32 * q ≤ 33 * 2 ^ b
    → power_up b q k ≤ power_down b p k + (3 + 6 * k)
unfolding power_up power_down
powers_apart b p q zero big few order close near = omega arith
powers_apart b p q (suc k) big few order close near =
    let ih = powers_apart b p q k big (omega arith) order close near in
    let near_p : 32 * p ≤ 33 * 2 ^ b = omega arith in
    let near_l : 32 * power_down b p k ≤ (33 + 2 * k) * 2 ^ b =
    omega (arith, power_down-le-up b p k, power_up-near b p k big (omega arith) near_p) in
    let g = apart-step (2 ^ b) p q (power_down b p k) (power_up b q k) (down b (power_down b p k) p) (up b (power_up b q k) q) k (omega arith) (pow_pos b) close near near_l ih
    (up_lt b (power_up b q k) q) (down_gt b (power_down b p k) p) in
    omega (arith, g)
