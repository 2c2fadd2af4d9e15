use Rattle.ee_units.proofs.DayGrammar.{day_complete, day_sound}
use Rattle.ee_units.proofs.laws.day_law.Goals as goal

pub returns-clause-complete : goal.returns-clause-complete
returns-clause-complete c = day_complete

pub returns-clause-sound : goal.returns-clause-sound
returns-clause-sound c = day_sound
