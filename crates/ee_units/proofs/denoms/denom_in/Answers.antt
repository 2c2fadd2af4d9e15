use Rattle.std.proofs.Common.{rules}
use Rattle.ee_units.proofs.denoms.denom_in.Goals as goal

pub returns-in-text-8 : goal.returns-in-text-8
returns-in-text-8 c = search rules
