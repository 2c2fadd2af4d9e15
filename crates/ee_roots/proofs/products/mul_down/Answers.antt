use Rattle.std.proofs.Common.{rules}
use Rattle.ee_roots.proofs.products.mul_down.Goals as goal

pub returns : goal.returns
returns c = search rules
