use Rattle.std.proofs.Common.{rules}
use Rattle.ee_value_c.proofs.exports.ee_value_version.Goals as goal

pub returns : goal.returns
returns c = search rules
