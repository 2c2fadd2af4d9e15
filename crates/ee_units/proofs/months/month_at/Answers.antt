use Rattle.std.proofs.Common.{rules}
use Rattle.ee_units.specs.Spelling.{month_at}
use Rattle.ee_units.proofs.months.month_at.Goals as goal

pub returns-else-contains : goal.returns-else-contains
unfolding month_at
returns-else-contains c = search rules
