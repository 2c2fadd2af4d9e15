use Rattle.std.proofs.Common.{rules}
use Rattle.ee_wire_calls.proofs.faults.Field.name.Goals as goal

pub returns-in-Other : goal.returns-in-Other
returns-in-Other c = search rules
