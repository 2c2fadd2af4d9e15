use Rattle.std.proofs.Common.{rules}
use Rattle.ee_value.proofs.bonds.counted_age.Goals as goal

pub returns : goal.returns
returns c = search rules
