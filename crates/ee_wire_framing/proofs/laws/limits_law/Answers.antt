use Rattle.std.proofs.Common.{refl}
use Rattle.ee_wire_framing.proofs.laws.limits_law.Goals as goal

pub returns-clause-body : goal.returns-clause-body
returns-clause-body c = refl

pub returns-clause-held : goal.returns-clause-held
returns-clause-held c = refl

pub returns-clause-head : goal.returns-clause-head
returns-clause-head c = refl

pub returns-clause-fields : goal.returns-clause-fields
returns-clause-fields c = refl
