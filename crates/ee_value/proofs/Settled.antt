-- A month within a half-year: what the bounds show.
use Rattle.std.proofs.Common.{◌≡◌, ◌≢◌, ℕ, suc, ◌+◌, ◌-◌, ◌*◌, ◌/◌, ◌^◌, ◌<◌, ◌≤◌, arith, add-one, sym, ap, ◌∙◌, inl, inr}
use Rattle.std.proofs.Math.Nat.{mul-le-mul_left, le_of_mul-le-mul_left, lt_of_mul-lt-mul_left, mul_comm, pow-suc, pow-le-pow_left, pow-lt-pow_left, one-le-pow, mul-lt-mul_of_pos_left, div-mul-le_self, lt-div-mul-add, mul-sub}
use Rattle.std.proofs.lemmas.Nat.{pow_pos, pow-add, mul-pow, mul-le}
use Rattle.std.proofs.lemmas.Bool.{cases_lt}
use Rattle.ee_roots.specs.Products.{power_down, power_up}
use Rattle.ee_roots.specs.Roots.{Encloses}
use Rattle.ee_roots.specs.Amounts.{cents}
use Rattle.ee_roots.proofs.Lemmas.{power_up-ge, power_down-le, pow-mul}
use Rattle.ee_value.specs.Rounding.{Rounds}
use Rattle.ee_value.specs.Open.{Close}

-- ---- powers of the bounds enclose powers of the root

sixth-swap : (n k : ℕ) → (n ^ k) ^ 6 ≡ (n ^ 6) ^ k
sixth-swap n k = sym (pow-mul n 6 k) ∙ ap (λ e. n ^ e) (mul_comm 6 k) ∙ pow-mul n k 6

cancel : (l x p t s f : ℕ) → 0 < x → l * x ≤ p → p * t ≤ x * s * f → l * t ≤ s * f
cancel l x p t s f some h k =
    let a : l * x * t ≤ p * t = mul-le (l * x) t p t h (omega arith) in
    let e : x * (l * t) ≤ x * (s * f) = omega (arith, a, k) in le_of_mul-le-mul_left e some

-- (n ^ 6 c) ^ (k + 1), expanded
sixth_terms : (n c k : ℕ) → (n ^ 6 * c) ^ (k + 1) ≡ (n ^ (k + 1)) ^ 6 * c ^ (k + 1)
sixth_terms n c k = mul-pow (n ^ 6) c (k + 1) ∙ ap (λ x. x * c ^ (k + 1)) (sym (sixth-swap n (k + 1)))

sixth_next : (n k : ℕ) → (n ^ (k + 1)) ^ 6 ≡ (n ^ k) ^ 6 * n ^ 6
sixth_next n k = ap (λ e. (n ^ e) ^ 6) (add-one k) ∙ ap (λ x. x ^ 6) (pow-suc n k) ∙ mul-pow (n ^ k) n 6

sixth_one : (b k : ℕ) → 0 < ((2 ^ b) ^ k) ^ 6
sixth_one b k = one-le-pow 6 ((2 ^ b) ^ k) (one-le-pow k (2 ^ b) (pow_pos b))

pub low_power : (b r low k : ℕ) → low ^ 6 * 20000 ≤ 2 ^ (6 * b) * (20000 + r)
    → power_down b low k ^ 6 * 20000 ^ (k + 1) ≤ (2 ^ b) ^ 6 * (20000 + r) ^ (k + 1)
low_power b r low k h =
    let a : power_down b low k ^ 6 * ((2 ^ b) ^ k) ^ 6 ≤ (low ^ (k + 1)) ^ 6 =
    rw (mul-pow (power_down b low k) ((2 ^ b) ^ k) 6) at (pow-le-pow_left (power_down-le b low k) 6) in
    let h' : low ^ 6 * 20000 ≤ (2 ^ b) ^ 6 * (20000 + r) = rw (pow-mul 2 6 b) at h in
    let c : (low ^ 6 * 20000) ^ (k + 1) ≤ ((2 ^ b) ^ 6 * (20000 + r)) ^ (k + 1) = pow-le-pow_left h' (k + 1) in
    let d : (low ^ (k + 1)) ^ 6 * 20000 ^ (k + 1) ≤ ((2 ^ b) ^ k) ^ 6 * (2 ^ b) ^ 6 * (20000 + r) ^ (k + 1) =
    rw (sixth_terms low 20000 k, sixth_terms (2 ^ b) (20000 + r) k, sixth_next (2 ^ b) k) at c in
    cancel (power_down b low k ^ 6) (((2 ^ b) ^ k) ^ 6) ((low ^ (k + 1)) ^ 6) (20000 ^ (k + 1)) ((2 ^ b) ^ 6) ((20000 + r) ^ (k + 1)) (sixth_one b k) a d

cancel_up : (l x p t s f : ℕ) → 0 < x → p ≤ l * x → x * s * f ≤ p * t → s * f ≤ l * t
cancel_up l x p t s f some h k =
    let a : p * t ≤ l * x * t = mul-le p t (l * x) t h (omega arith) in
    let e : x * (s * f) ≤ x * (l * t) = omega (arith, a, k) in le_of_mul-le-mul_left e some

pub high_power : (b r high k : ℕ) → 2 ^ (6 * b) * (20000 + r) ≤ high ^ 6 * 20000
    → (2 ^ b) ^ 6 * (20000 + r) ^ (k + 1) ≤ power_up b high k ^ 6 * 20000 ^ (k + 1)
high_power b r high k h =
    let a : (high ^ (k + 1)) ^ 6 ≤ power_up b high k ^ 6 * ((2 ^ b) ^ k) ^ 6 =
    rw (mul-pow (power_up b high k) ((2 ^ b) ^ k) 6) at (pow-le-pow_left (power_up-ge b high k) 6) in
    let h' : (2 ^ b) ^ 6 * (20000 + r) ≤ high ^ 6 * 20000 = rw (pow-mul 2 6 b) at h in
    let c : ((2 ^ b) ^ 6 * (20000 + r)) ^ (k + 1) ≤ (high ^ 6 * 20000) ^ (k + 1) = pow-le-pow_left h' (k + 1) in
    let d : ((2 ^ b) ^ k) ^ 6 * (2 ^ b) ^ 6 * (20000 + r) ^ (k + 1) ≤ (high ^ (k + 1)) ^ 6 * 20000 ^ (k + 1) =
    rw (sixth_terms high 20000 k, sixth_terms (2 ^ b) (20000 + r) k, sixth_next (2 ^ b) k) at c in
    cancel_up (power_up b high k ^ 6) (((2 ^ b) ^ k) ^ 6) ((high ^ (k + 1)) ^ 6) (20000 ^ (k + 1)) ((2 ^ b) ^ 6) ((20000 + r) ^ (k + 1)) (sixth_one b k) a d

-- ---- cents

half : (b : ℕ) → 1 ≤ b → 2 * 2 ^ (b - 1) ≡ 2 ^ b
half b h =
    let e : b ≡ suc (b - 1) = omega arith in
    let p : 2 ^ b ≡ 2 ^ (b - 1) * 2 = ap (λ n. 2 ^ n) e ∙ pow-suc 2 (b - 1) in omega arith

pub cents_le : (b x : ℕ) → 1 ≤ b → (2 * cents b x - 1) * 2 ^ b ≤ 2 * x
cents_le b x h =
    let d : cents b x * 2 ^ b ≤ x + 2 ^ (b - 1) = div-mul-le_self (x + 2 ^ (b - 1)) (2 ^ b) in
    let e = half b h in
    let m : 2 ^ b * (2 * cents b x - 1) ≡ 2 ^ b * (2 * cents b x) - 2 ^ b * 1 = mul-sub (2 ^ b) (2 * cents b x) 1 in
    omega (arith, d, e, m)

pub cents_gt : (b x : ℕ) → 1 ≤ b → 2 * x < (2 * cents b x + 1) * 2 ^ b
cents_gt b x h =
    let d : x + 2 ^ (b - 1) < cents b x * 2 ^ b + 2 ^ b = lt-div-mul-add (pow_pos b) in
    let e = half b h in omega (arith, d, e)

-- ---- what bounds that round to the same cents show

-- y is u times a bound, x is the number compared with it
scaled-le : (x u l s t f : ℕ) → 0 < s → x * s ≤ 2 * u * l → l ^ 6 * t ≤ s ^ 6 * f → x ^ 6 * t ≤ (2 * u) ^ 6 * f
scaled-le x u l s t f some h k =
    let a : x ^ 6 * s ^ 6 ≤ (2 * u) ^ 6 * l ^ 6 = rw (mul-pow x s 6, mul-pow (2 * u) l 6) at (pow-le-pow_left h 6) in
    let c : x ^ 6 * s ^ 6 * t ≤ (2 * u) ^ 6 * l ^ 6 * t = mul-le (x ^ 6 * s ^ 6) t ((2 * u) ^ 6 * l ^ 6) t a (omega arith) in
    let d : (2 * u) ^ 6 * (l ^ 6 * t) ≤ (2 * u) ^ 6 * (s ^ 6 * f) = mul-le-mul_left ((2 * u) ^ 6) k in
    let e : s ^ 6 * (x ^ 6 * t) ≤ s ^ 6 * ((2 * u) ^ 6 * f) = omega (arith, c, d) in
    le_of_mul-le-mul_left e (one-le-pow 6 s some)

scaled-lt : (x u l s t f : ℕ) → 0 < s → 0 < t → 2 * u * l < x * s → s ^ 6 * f ≤ l ^ 6 * t → (2 * u) ^ 6 * f < x ^ 6 * t
scaled-lt x u l s t f some t_some h k =
    let six : 6 ≢ 0 = omega arith in
    let p : (2 * u * l) ^ 6 < (x * s) ^ 6 = pow-lt-pow_left h six in
    let a : (2 * u) ^ 6 * l ^ 6 < x ^ 6 * s ^ 6 = rw (mul-pow (2 * u) l 6, mul-pow x s 6) at p in
    let c : t * ((2 * u) ^ 6 * l ^ 6) < t * (x ^ 6 * s ^ 6) = mul-lt-mul_of_pos_left a t_some in
    let d : (2 * u) ^ 6 * (s ^ 6 * f) ≤ (2 * u) ^ 6 * (l ^ 6 * t) = mul-le-mul_left ((2 * u) ^ 6) k in
    let e : s ^ 6 * ((2 * u) ^ 6 * f) < s ^ 6 * (x ^ 6 * t) = omega (arith, c, d) in
    lt_of_mul-lt-mul_left (s ^ 6) e

-- a whole number of cents below a value after growth is at least the value before
some_cents : (u r m c : ℕ) → 1 ≤ u → (2 * u) ^ 6 * (20000 + r) ^ m < (2 * c + 1) ^ 6 * 20000 ^ m → 1 ≤ c
some_cents u r m c some h =
    let g : 20000 ^ m ≤ (20000 + r) ^ m = pow-le-pow_left (omega arith) m in
    let a : (2 * u) ^ 6 * 20000 ^ m ≤ (2 * u) ^ 6 * (20000 + r) ^ m = mul-le-mul_left ((2 * u) ^ 6) g in
    let k : 20000 ^ m * (2 * u) ^ 6 < 20000 ^ m * (2 * c + 1) ^ 6 = omega (arith, a, h) in
    let l : (2 * u) ^ 6 < (2 * c + 1) ^ 6 = lt_of_mul-lt-mul_left (20000 ^ m) k in
    elim (cases_lt c 1) [
      | inl none ↦
          let le : 2 * c + 1 ≤ 2 * u = omega arith in absurd (omega (arith, l, pow-le-pow_left le 6))
      | inr le ↦ le
    ]

pub Rounds-settled : (u r b low high k : ℕ) → 1 ≤ u → 1 ≤ b → Encloses b r low high
    → cents b (u * power_down b low k) ≡ cents b (u * power_up b high k) → Rounds u r (k + 1) (cents b (u * power_down b low k))
Rounds-settled u r b low high k some places enc same =
    let l : (2 * cents b (u * power_down b low k) - 1) * 2 ^ b ≤ 2 * u * power_down b low k = omega (arith, cents_le b (u * power_down b low k) places) in
    let h : 2 * u * power_up b high k < (2 * cents b (u * power_down b low k) + 1) * 2 ^ b = rw same (omega (arith, cents_gt b (u * power_up b high k) places)) in
    let below = scaled-le (2 * cents b (u * power_down b low k) - 1) u (power_down b low k) (2 ^ b) (20000 ^ (k + 1)) ((20000 + r) ^ (k + 1)) (pow_pos b) l (low_power b r low k enc.0) in
    let above = scaled-lt (2 * cents b (u * power_down b low k) + 1) u (power_up b high k) (2 ^ b) (20000 ^ (k + 1)) ((20000 + r) ^ (k + 1)) (pow_pos b) (one-le-pow (k + 1) 20000 (omega arith)) h (high_power b r high k enc.1) in
    (some_cents u r (k + 1) (cents b (u * power_down b low k)) some above, below, above)

-- ---- the rational cases

pub Rounds-zero : (u m : ℕ) → 1 ≤ u → Rounds u 0 m u
Rounds-zero u m some =
    let six : 6 ≢ 0 = omega arith in
    let h : 2 * u - 1 ≤ 2 * u = omega arith in
    let g : 2 * u < 2 * u + 1 = omega arith in
    let a : (2 * u - 1) ^ 6 ≤ (2 * u) ^ 6 = pow-le-pow_left h 6 in
    let b : (2 * u) ^ 6 < (2 * u + 1) ^ 6 = pow-lt-pow_left g six in
    let t : 0 < 20000 ^ m = one-le-pow m 20000 (omega arith) in
    let c : 20000 ^ m * (2 * u - 1) ^ 6 ≤ 20000 ^ m * (2 * u) ^ 6 = mul-le-mul_left (20000 ^ m) a in
    let d : 20000 ^ m * (2 * u) ^ 6 < 20000 ^ m * (2 * u + 1) ^ 6 = mul-lt-mul_of_pos_left b t in
    (some, omega (arith, c), omega (arith, d))

cubed : (n r : ℕ) → 2 * (n * n) ≡ 20000 + r → (20000 + r) ^ 3 ≡ 8 * n ^ 6
cubed n r h =
    let a : (20000 + r) ^ 3 ≡ (2 * (n * n)) ^ 3 = ap (λ x. x ^ 3) (sym h) in
    let b : (2 * (n * n)) ^ 3 ≡ 8 * (n * n) ^ 3 = mul-pow 2 (n * n) 3 in
    let c : (n * n) ^ 3 ≡ n ^ 3 * n ^ 3 = mul-pow n n 3 in
    let d : n ^ 6 ≡ n ^ 3 * n ^ 3 = pow-add n 3 3 in
    omega (arith, a, b, c, d)

-- the root is n / 100
pub Rounds-exact : (u r n c : ℕ) → 2 * (n * n) ≡ 20000 + r → 1 ≤ c → (2 * c - 1) * 100 ≤ 2 * u * n → 2 * u * n < (2 * c + 1) * 100 → Rounds u r 3 c
Rounds-exact u r n c square some low high =
    let six : 6 ≢ 0 = omega arith in
    let e = cubed n r square in
    let p : ((2 * c - 1) * 100) ^ 6 ≤ (2 * u * n) ^ 6 = pow-le-pow_left low 6 in
    let q : (2 * u * n) ^ 6 < ((2 * c + 1) * 100) ^ 6 = pow-lt-pow_left high six in
    let a : (2 * c - 1) ^ 6 * 100 ^ 6 ≤ (2 * u) ^ 6 * n ^ 6 = rw (mul-pow (2 * c - 1) 100 6, mul-pow (2 * u) n 6) at p in
    let b : (2 * u) ^ 6 * n ^ 6 < (2 * c + 1) ^ 6 * 100 ^ 6 = rw (mul-pow (2 * u) n 6, mul-pow (2 * c + 1) 100 6) at q in
    (some, rw e (omega (arith, a)), rw e (omega (arith, b)))

pub Rounds-by_root : (u r n : ℕ) → 2 * (n * n) ≡ 20000 + r → 100 ≤ n → 1 ≤ u → Rounds u r 3 ((2 * u * n + 100) / 200)
Rounds-by_root u r n square big some =
    let p : 1 * 100 ≤ u * n = mul-le 1 100 u n some big in
    Rounds-exact u r n ((2 * u * n + 100) / 200) square (omega (arith, p)) (omega (arith, p)) (omega (arith, p))

-- ---- values close to a half cent

near-le : (x u l t v : ℕ) → x ≤ 2 * u * l → l ^ 6 * t ≤ v → x ^ 6 * t ≤ (2 * u) ^ 6 * v
near-le x u l t v h k =
    let a : x ^ 6 ≤ (2 * u) ^ 6 * l ^ 6 = rw (mul-pow (2 * u) l 6) at (pow-le-pow_left h 6) in
    let c : x ^ 6 * t ≤ (2 * u) ^ 6 * l ^ 6 * t = mul-le (x ^ 6) t ((2 * u) ^ 6 * l ^ 6) t a (omega arith) in
    let d : (2 * u) ^ 6 * (l ^ 6 * t) ≤ (2 * u) ^ 6 * v = mul-le-mul_left ((2 * u) ^ 6) k in omega (arith, c, d)

near-ge : (x u h t v : ℕ) → 2 * u * h ≤ x → v ≤ h ^ 6 * t → (2 * u) ^ 6 * v ≤ x ^ 6 * t
near-ge x u h t v g k =
    let a : (2 * u) ^ 6 * h ^ 6 ≤ x ^ 6 = rw (mul-pow (2 * u) h 6) at (pow-le-pow_left g 6) in
    let c : (2 * u) ^ 6 * h ^ 6 * t ≤ x ^ 6 * t = mul-le ((2 * u) ^ 6 * h ^ 6) t (x ^ 6) t a (omega arith) in
    let d : (2 * u) ^ 6 * v ≤ (2 * u) ^ 6 * (h ^ 6 * t) = mul-le-mul_left ((2 * u) ^ 6) k in omega (arith, c, d)

value-is : (b u f : ℕ) → (2 ^ (b + 1) * u) ^ 6 * f ≡ (2 * u) ^ 6 * ((2 ^ b) ^ 6 * f)
value-is b u f =
    let twice : 2 ^ (b + 1) ≡ 2 ^ b * 2 = pow-add 2 b 1 in
    let e : 2 ^ (b + 1) * u ≡ 2 * u * 2 ^ b = omega (arith, ap (λ x. x * u) twice) in
    let p : (2 ^ (b + 1) * u) ^ 6 ≡ (2 * u) ^ 6 * (2 ^ b) ^ 6 = ap (λ x. x ^ 6) e ∙ mul-pow (2 * u) (2 ^ b) 6 in
    rw p (omega arith)

pub Close-from_bounds : (u r b low high k : ℕ) → 1 ≤ b → Encloses b r low high → power_up b high k ≤ power_down b low k + 32
    → cents b (u * power_down b low k) < cents b (u * power_up b high k) → Close u r (k + 1) b
Close-from_bounds u r b low high k places enc narrow apart =
    let one : 2 * (cents b (u * power_up b high k) - 1) + 1 ≡ 2 * cents b (u * power_up b high k) - 1 = omega arith in
    let m : (2 * cents b (u * power_up b high k) - 1) * 2 ^ b ≤ 2 * (u * power_up b high k) = cents_le b (u * power_up b high k) places in
    let w : u * power_up b high k ≤ u * (power_down b low k + 32) = mul-le-mul_left u narrow in
    let g : 2 * (u * power_down b low k) < (2 * cents b (u * power_down b low k) + 1) * 2 ^ b = cents_gt b (u * power_down b low k) places in
    let o : (2 * cents b (u * power_down b low k) + 1) * 2 ^ b ≤ (2 * cents b (u * power_up b high k) - 1) * 2 ^ b =
    mul-le (2 * cents b (u * power_down b low k) + 1) (2 ^ b) (2 * cents b (u * power_up b high k) - 1) (2 ^ b) (omega arith) (omega arith) in
    let below : (2 * cents b (u * power_up b high k) - 1) * 2 ^ b - 64 * u ≤ 2 * u * power_down b low k = omega (arith, m, w) in
    let above : 2 * u * power_up b high k ≤ (2 * cents b (u * power_up b high k) - 1) * 2 ^ b + 64 * u = omega (arith, g, o, w) in
    let v = value-is b u ((20000 + r) ^ (k + 1)) in (
      cents b (u * power_up b high k) - 1,
      (
        rw (one, v) (near-le ((2 * cents b (u * power_up b high k) - 1) * 2 ^ b - 64 * u) u (power_down b low k) (20000 ^ (k + 1)) ((2 ^ b) ^ 6 * (20000 + r) ^ (k + 1)) below (low_power b r low k enc.0)),
        rw (one, v) (near-ge ((2 * cents b (u * power_up b high k) - 1) * 2 ^ b + 64 * u) u (power_up b high k) (20000 ^ (k + 1)) ((2 ^ b) ^ 6 * (20000 + r) ^ (k + 1)) above (high_power b r high k enc.1)),
      ),
    )
