use Rattle.std.proofs.Common.{rules}
use Rattle.ee_value_c.proofs.numbers.rate.Goals as goal

pub returns : goal.returns
returns c = search rules
