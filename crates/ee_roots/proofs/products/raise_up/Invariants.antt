use Rattle.std.proofs.Common.{◌≡◌}
use Rattle.ee_roots.specs.Products.{power_up}
use Rattle.ee_roots.proofs.products.raise_up.Given as goal

abbrev pub invariant-loop-i : goal.invariant-loop-i
invariant-loop-i l = l.product ≡ power_up l.bits l.p l._i
