use Rattle.ee_units.proofs.RateGrammar.{complete, sound}
use Rattle.ee_units.proofs.laws.rate_law.Goals as goal

pub returns-clause-complete : goal.returns-clause-complete
returns-clause-complete c = complete

pub returns-clause-sound : goal.returns-clause-sound
returns-clause-sound c = sound
