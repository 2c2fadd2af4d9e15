use Rattle.std.proofs.Common.{rules}
use Rattle.ee_units.specs.Spelling.{serial_at}
use Rattle.ee_units.proofs.serials.Serial.new.Goals as goal

pub returns-else-letter-ge1 : goal.returns-else-letter-ge1
unfolding serial_at
returns-else-letter-ge1 c = search rules
