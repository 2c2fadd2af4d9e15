use Rattle.std.proofs.Common.{rules}
use Rattle.ee_desk_decide.proofs.values.unsettled_age.Goals as goal

pub returns-in-Unsettled : goal.returns-in-Unsettled
returns-in-Unsettled c = search rules
