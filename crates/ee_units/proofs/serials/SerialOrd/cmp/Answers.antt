use Rattle.std.proofs.Common.{rules}
use Rattle.ee_units.proofs.serials.SerialOrd.cmp.Goals as goal

pub returns : goal.returns
returns c = search rules
