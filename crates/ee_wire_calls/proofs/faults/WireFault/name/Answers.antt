use Rattle.std.proofs.Common.{rules}
use Rattle.ee_wire_calls.proofs.faults.WireFault.name.Goals as goal

pub returns-in-NoRoute : goal.returns-in-NoRoute
returns-in-NoRoute c = search rules
