use Rattle.ee_units.proofs.Padded.{decimal_text-padded}
use Rattle.ee_units.proofs.money.CentsDisplay.fmt.Goals as goal

pub returns-clause-writes : goal.returns-clause-writes
returns-clause-writes g c = λ plain ok. rw (← decimal_text-padded c.args.self.now.0) (rw c.laid_out.ensures at (c.write.ensures.writes plain ok))
