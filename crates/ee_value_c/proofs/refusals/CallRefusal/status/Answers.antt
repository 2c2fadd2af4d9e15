use Rattle.std.proofs.Common.{rules}
use Rattle.ee_value_c.proofs.refusals.CallRefusal.status.Goals as goal

pub returns-in-BadRate : goal.returns-in-BadRate
returns-in-BadRate c = search rules
