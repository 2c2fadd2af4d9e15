use Rattle.ee_units.proofs.Padded.{month_text-padded}
use Rattle.ee_units.proofs.months.MonthDisplay.fmt.Goals as goal

pub returns-clause-writes : goal.returns-clause-writes
returns-clause-writes g c = λ plain ok. rw (← c.self.view_is, ← month_text-padded c.self.inside.count) (rw c.laid_out.ensures at (c.write.ensures.writes plain ok))
