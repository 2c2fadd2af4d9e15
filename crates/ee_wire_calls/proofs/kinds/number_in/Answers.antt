use Rattle.std.proofs.Common.{rules}
use Rattle.ee_wire_calls.proofs.kinds.number_in.Goals as goal

pub returns : goal.returns
returns c = search rules
