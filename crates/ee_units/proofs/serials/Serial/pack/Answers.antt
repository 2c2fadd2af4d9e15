use Rattle.std.proofs.Common.{rules}
use Rattle.ee_units.proofs.serials.Serial.pack.Goals as goal

pub invariant_of-result : goal.invariant_of-result
invariant_of-result c = search rules

pub returns-clause-letter : goal.returns-clause-letter
returns-clause-letter c = search rules

pub returns-clause-number : goal.returns-clause-number
returns-clause-number c = search rules
