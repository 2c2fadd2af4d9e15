use Rattle.std.proofs.Common.{◌≡◌, ◌+◌, ◌*◌, ◌^◌, ◌<◌, ◌≤◌, ℕ, zero, suc, arith, List, ◌∷◌, []}
use Rattle.ee_roots.specs.Products.{power_down, power_up}
use Rattle.ee_value.specs.Inner.Open.{AreNear}
use Rattle.ee_value.proofs.powers.Powers.of.Goals as goal

same_five : (a b c d e v w x y z : ℕ) → a ≡ v → b ≡ w → c ≡ x → d ≡ y → e ≡ z
    → ◌≡◌ {A = List ℕ} (a ∷ b ∷ c ∷ d ∷ e ∷ []) (v ∷ w ∷ x ∷ y ∷ z ∷ [])
same_five a b c d e v w x y z h i j k l = cc

near : (b low high x y : ℕ) → x ≡ low → y ≡ high → x ≤ y → y ≤ x + 32 → 32 * y ≤ 43 * 2 ^ b → AreNear b low high
near b low high x y l h order narrow near_one = (omega (arith, l, h, order), omega (arith, l, h, narrow), omega (arith, h, near_one))

each_of_five : (P : ℕ → Type 0) → P 0 → P 1 → P 2 → P 3 → P 4 → (k : ℕ) → k < 5 → P k
each_of_five P a b c d e zero h = a
each_of_five P a b c d e (suc zero) h = b
each_of_five P a b c d e (suc (suc zero)) h = c
each_of_five P a b c d e (suc (suc (suc zero))) h = d
each_of_five P a b c d e (suc (suc (suc (suc zero)))) h = e
each_of_five P a b c d e (suc (suc (suc (suc (suc k))))) h = absurd (omega (arith, h))

pub invariant_of-result : goal.invariant_of-result
invariant_of-result c =
    let b = c.args.root.bits in
    let one = c.power_bounds-one.ensures in let two = c.power_bounds-two.ensures in let three = c.power_bounds-three.ensures in
    let four = c.power_bounds-four.ensures in let five = c.power_bounds-five.ensures in (
      same_five _ _ _ _ _ _ _ _ _ _ one.low two.low three.low four.low five.low,
      same_five _ _ _ _ _ _ _ _ _ _ one.high two.high three.high four.high five.high,
      each_of_five (λ k. AreNear b (power_down b c.args.root.low k) (power_up b c.args.root.high k))
          (near b _ _ _ _ one.low one.high one.order one.narrow one.near_one)
          (near b _ _ _ _ two.low two.high two.order two.narrow two.near_one)
          (near b _ _ _ _ three.low three.high three.order three.narrow three.near_one)
          (near b _ _ _ _ four.low four.high four.order four.narrow four.near_one)
          (near b _ _ _ _ five.low five.high five.order five.narrow five.near_one),
    )
