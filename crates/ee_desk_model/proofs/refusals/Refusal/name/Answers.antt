use Rattle.std.proofs.Common.{rules}
use Rattle.ee_desk_model.proofs.refusals.Refusal.name.Goals as goal

pub returns-in-DayIsOther : goal.returns-in-DayIsOther
returns-in-DayIsOther c = search rules
