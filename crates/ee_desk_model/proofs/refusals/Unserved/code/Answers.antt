use Rattle.std.proofs.Common.{rules}
use Rattle.ee_desk_model.proofs.refusals.Unserved.code.Goals as goal

pub returns : goal.returns
returns c = search rules
