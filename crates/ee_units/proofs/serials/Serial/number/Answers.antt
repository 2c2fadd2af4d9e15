use Rattle.std.proofs.Common.{rules}
use Rattle.ee_units.proofs.serials.Serial.number.Goals as goal

pub returns-clause-value : goal.returns-clause-value
returns-clause-value c = search rules
