use Rattle.std.proofs.Common.{rules}
use Rattle.ee_value_c.proofs.exports.ee_value_row_into.Goals as goal

pub returns-clause-row : goal.returns-clause-row
returns-clause-row c = search rules
