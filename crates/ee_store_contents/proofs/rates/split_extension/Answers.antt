use Rattle.std.proofs.Common.{rules}
use Rattle.ee_store_contents.proofs.rates.split_extension.Goals as goal

pub returns-then-row-period-clause-extension : goal.returns-then-row-period-clause-extension
returns-then-row-period-clause-extension c = search rules
