use Rattle.std.proofs.Common.{rules}
use Rattle.ee_units.proofs.days.day_of_number.Goals as goal

pub returns-else-contains : goal.returns-else-contains
returns-else-contains c = search rules
