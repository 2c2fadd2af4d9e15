-- Lemmas that the crates above may cite: how far directed powers and bounds are from exact ones.
use Rattle.std.proofs.Common.{ℕ, ◌*◌, ◌+◌, ◌/◌, ◌<◌, ◌^◌, ◌≡◌, ◌≤◌}
use Rattle.ee_roots.specs.Products.{power_down, power_up}
use Rattle.ee_roots.specs.Roots.{Encloses, IsHigh, IsLow}
use Rattle.ee_roots.proofs.Bounds
use Rattle.ee_roots.proofs.Directed

-- ---- directed powers
-- a power rounded up is at least the exact one
pub power_up-ge : (b p k : ℕ) → p ^ (k + 1) ≤ power_up b p k * (2 ^ b) ^ k
power_up-ge = Bounds.power_up-ge

-- a power rounded down is at most the exact one
pub power_down-le : (b p k : ℕ) → power_down b p k * (2 ^ b) ^ k ≤ p ^ (k + 1)
power_down-le = Bounds.power_down-le

-- a larger base doesn't have a smaller power
pub power_up-mono : (b p q k : ℕ) → p ≤ q → power_up b p k ≤ power_up b q k
power_up-mono = Directed.power_up-mono

-- a power rounded down is at most the same power rounded up
pub power_down-le-up : (b p k : ℕ) → power_down b p k ≤ power_up b p k
power_down-le-up = Directed.power_down-le-up

-- a power with a product as its exponent is a power of a power
pub pow-mul : (n i j : ℕ) → n ^ (i * j) ≡ (n ^ j) ^ i
pow-mul = Bounds.pow-pow

-- a larger base has a larger sixth power
pub sixth_lt : (m n : ℕ) → m < n → m ^ 6 < n ^ 6
sixth_lt = Bounds.sixth_lt

-- ---- bounds of the sixth root
-- the low bound is at most the high one
pub low-le_high : (b r low high : ℕ) → IsLow b r low → IsHigh b r high → low ≤ high
low-le_high = Bounds.low-le_high

-- the two bounds enclose the root
pub Encloses-from_root : (b r low high : ℕ) → IsLow b r low → IsHigh b r high → Encloses b r low high
Encloses-from_root = Bounds.Encloses-from_root

-- at the upper end of the search the power rounded up exceeds the target
pub top_exceeds : (b r s w : ℕ) → 8 ≤ b → r ≤ 2000 → s ≡ 2 ^ b → w ≡ 2 ^ b * (20000 + r) → w < power_up b (s + s / 32) 5 * 20000
top_exceeds = Directed.top_exceeds

-- and so does the power rounded down
pub top_reaches : (b r s w : ℕ) → 8 ≤ b → r ≤ 2000 → s ≡ 2 ^ b → w ≡ 2 ^ b * (20000 + r) → w < power_down b (s + s / 32) 5 * 20000
top_reaches = Directed.top_reaches
