use Rattle.std.proofs.Common.{rules}
use Rattle.ee_units.proofs.calendar.month_of.Goals as goal

pub returns : goal.returns
returns c = search rules
