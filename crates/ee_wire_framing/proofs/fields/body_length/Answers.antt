use Rattle.std.proofs.Common.{arith}
use Rattle.std.proofs.lemmas.Grind.{common_steps}
use Rattle.ee_wire_framing.proofs.fields.body_length.Goals as goal

pub returns-in_default : goal.returns-in_default
returns-in_default c = grind (arith, common_steps)

pub returns-in-None-values_of : goal.returns-in-None-values_of
returns-in-None-values_of c = grind (arith, common_steps)

pub returns-in-One : goal.returns-in-One
returns-in-One c = grind (arith, common_steps)

pub returns-in-Many : goal.returns-in-Many
returns-in-Many c = grind (arith, common_steps)
