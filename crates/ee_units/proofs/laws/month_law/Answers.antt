use Rattle.ee_units.proofs.MonthGrammar.{month_complete, month_sound}
use Rattle.ee_units.proofs.laws.month_law.Goals as goal

pub returns-clause-complete : goal.returns-clause-complete
returns-clause-complete c = month_complete

pub returns-clause-sound : goal.returns-clause-sound
returns-clause-sound c = month_sound
