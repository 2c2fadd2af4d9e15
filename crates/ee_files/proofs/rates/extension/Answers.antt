use Rattle.std.proofs.Common.{rules}
use Rattle.ee_files.proofs.rates.extension.Goals as goal

pub returns-else-width-eq3-clause-gives : goal.returns-else-width-eq3-clause-gives
returns-else-width-eq3-clause-gives c = search rules
