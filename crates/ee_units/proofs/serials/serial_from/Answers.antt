use Rattle.std.proofs.Common.{rules}
use Rattle.ee_units.specs.Spelling.{serial_from}
use Rattle.ee_units.proofs.serials.serial_from.Goals as goal

pub returns-then-contains : goal.returns-then-contains
unfolding serial_from
returns-then-contains c = search rules

pub returns-else-contains : goal.returns-else-contains
unfolding serial_from
returns-else-contains c = search rules
