use Rattle.std.proofs.Common.{rules}
use Rattle.ee_value_c.proofs.exports.ee_value_cents.Goals as goal

pub returns-in-Err : goal.returns-in-Err
returns-in-Err c = search rules
