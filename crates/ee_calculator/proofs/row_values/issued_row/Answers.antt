use Rattle.std.proofs.Common.{rules}
use Rattle.ee_calculator.specs.Rows.{columns_of, value_in}
use Rattle.ee_calculator.proofs.row_values.issued_row.Goals as goal

pub returns-in-Pays-default-default-true-clause-columns : goal.returns-in-Pays-default-default-true-clause-columns
unfolding columns_of value_in
returns-in-Pays-default-default-true-clause-columns c = search rules
