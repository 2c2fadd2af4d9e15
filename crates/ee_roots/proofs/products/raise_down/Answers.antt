use Rattle.std.proofs.Common.{arith, sym, ◌∙◌, ap}
use Rattle.ee_roots.specs.Products.{down}
use Rattle.ee_roots.proofs.Directed.{power_down-none, power_down-more, power_down-small, near-small}
use Rattle.ee_roots.proofs.products.raise_down.Goals as goal

pub loop-i-init : goal.loop-i-init
loop-i-init c = sym (power_down-none c.args.bits c.args.p)

pub mul_down-product-requires-clause-first : goal.mul_down-product-requires-clause-first
mul_down-product-requires-clause-first c =
    omega (arith, c.loop-i.invariant, power_down-small c.args.bits c.args.p c.loop-i._i c.requires.precise c.requires.fits (omega arith) c.requires.near_one)

pub mul_down-product-requires-clause-second : goal.mul_down-product-requires-clause-second
mul_down-product-requires-clause-second c = near-small c.args.bits c.args.p c.requires.fits c.requires.near_one

pub loop-i-preserved : goal.loop-i-preserved
loop-i-preserved c =
    c.mul_down-product.ensures ∙ ap (λ q. down c.args.bits q c.args.p) c.loop-i.invariant ∙ sym (power_down-more c.args.bits c.args.p c.loop-i._i)
