use Rattle.std.proofs.Common.{rules}
use Rattle.ee_units.proofs.denoms.units.Goals as goal

pub returns : goal.returns
returns c = search rules
