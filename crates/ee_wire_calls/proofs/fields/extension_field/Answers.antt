use Rattle.std.proofs.Common.{rules}
use Rattle.ee_wire_calls.proofs.fields.extension_field.Goals as goal

pub returns-in-Some : goal.returns-in-Some
returns-in-Some c = search rules
