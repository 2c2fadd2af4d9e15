use Rattle.std.proofs.Common.{rules}
use Rattle.ee_units.proofs.customers.CustomerDisplay.fmt.Goals as goal

pub returns-clause-writes : goal.returns-clause-writes
returns-clause-writes g c = search rules
