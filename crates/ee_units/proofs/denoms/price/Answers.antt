use Rattle.std.proofs.Common.{rules}
use Rattle.ee_units.proofs.denoms.price.Goals as goal

pub returns : goal.returns
returns c = search rules
