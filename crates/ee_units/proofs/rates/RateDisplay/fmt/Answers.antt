use Rattle.ee_units.proofs.Padded.{rate_text-padded}
use Rattle.ee_units.proofs.rates.RateDisplay.fmt.Goals as goal

pub returns-clause-writes : goal.returns-clause-writes
returns-clause-writes g c = λ plain ok. rw (← c.self.view_is, ← rate_text-padded c.self.inside.hundredths) (rw c.laid_out.ensures at (c.write.ensures.writes plain ok))
