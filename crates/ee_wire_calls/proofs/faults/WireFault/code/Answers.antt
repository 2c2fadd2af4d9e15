use Rattle.std.proofs.Common.{rules}
use Rattle.ee_wire_calls.proofs.faults.WireFault.code.Goals as goal

pub returns-in-BadField : goal.returns-in-BadField
returns-in-BadField c = search rules
