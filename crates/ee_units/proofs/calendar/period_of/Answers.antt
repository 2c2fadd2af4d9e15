use Rattle.std.proofs.Common.{rules}
use Rattle.ee_units.proofs.calendar.period_of.Goals as goal

pub returns-clause-value : goal.returns-clause-value
returns-clause-value c = search rules

pub returns-clause-period : goal.returns-clause-period
returns-clause-period c = search rules
