use Rattle.ee_units.proofs.Padded.{decimal_text-digits}
use Rattle.ee_units.proofs.money.TotalDisplay.fmt.Goals as goal

pub returns-clause-writes : goal.returns-clause-writes
returns-clause-writes g c = λ plain ok. rw (← decimal_text-digits c.args.self.now.0) (c.write.ensures.writes plain ok)
