use Rattle.std.proofs.Common.{rules}
use Rattle.ee_units.proofs.customers.Customer.new.Goals as goal

pub returns-else-number-ge1 : goal.returns-else-number-ge1
returns-else-number-ge1 c = search rules
