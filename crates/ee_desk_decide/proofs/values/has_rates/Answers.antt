use Rattle.std.proofs.Common.{rules}
use Rattle.ee_desk_decide.proofs.values.has_rates.Goals as goal

pub returns-in-None : goal.returns-in-None
returns-in-None c = search rules
