use Rattle.ee_units.proofs.Padded.{day_text-padded}
use Rattle.ee_units.proofs.days.DayDisplay.fmt.Goals as goal

pub returns-clause-writes : goal.returns-clause-writes
returns-clause-writes g c = λ plain ok.
    let e = c.parts_of-year.ensures in
    let same = day_text-padded c.args.self.now c.parts_of-year.result.0 c.parts_of-year.result.1 c.parts_of-year.result.2 e.year e.month e.day e.small in
    rw (← same) (rw (c.laid_out.ensures, c.laid_out-2.ensures) at (c.write.ensures.writes plain ok))
