use Rattle.std.proofs.Common.{rules}
use Rattle.ee_calculator.proofs.row_values.row.Goals as goal

pub returns-clause-serial : goal.returns-clause-serial
returns-clause-serial c = search rules
