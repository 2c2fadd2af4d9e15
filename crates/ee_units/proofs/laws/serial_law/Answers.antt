use Rattle.ee_units.proofs.SerialGrammar.{serial_complete, serial_sound}
use Rattle.ee_units.proofs.laws.serial_law.Goals as goal

pub returns-clause-complete : goal.returns-clause-complete
returns-clause-complete c = serial_complete

pub returns-clause-sound : goal.returns-clause-sound
returns-clause-sound c = serial_sound
