use Rattle.std.proofs.Common.{arith, sym, ◌∙◌, ap}
use Rattle.ee_roots.specs.Products.{up}
use Rattle.ee_roots.proofs.Directed.{power_up-none, power_up-more, power_up-small, near-small}
use Rattle.ee_roots.proofs.products.raise_up.Goals as goal

pub loop-i-init : goal.loop-i-init
loop-i-init c = sym (power_up-none c.args.bits c.args.p)

pub mul_up-product-requires-clause-first : goal.mul_up-product-requires-clause-first
mul_up-product-requires-clause-first c =
    omega (arith, c.loop-i.invariant, power_up-small c.args.bits c.args.p c.loop-i._i c.requires.precise c.requires.fits (omega arith) c.requires.near_one)

pub mul_up-product-requires-clause-second : goal.mul_up-product-requires-clause-second
mul_up-product-requires-clause-second c = near-small c.args.bits c.args.p c.requires.fits c.requires.near_one

pub loop-i-preserved : goal.loop-i-preserved
loop-i-preserved c =
    c.mul_up-product.ensures ∙ ap (λ q. up c.args.bits q c.args.p) c.loop-i.invariant ∙ sym (power_up-more c.args.bits c.args.p c.loop-i._i)
