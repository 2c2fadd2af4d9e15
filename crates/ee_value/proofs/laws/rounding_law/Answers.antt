use Rattle.ee_value.proofs.Rounding.{Rounds-grown, Rounds-unique, Rounds-half}
use Rattle.ee_value.proofs.laws.rounding_law.Goals as goal

pub returns-clause-fits : goal.returns-clause-fits
returns-clause-fits c = Rounds-grown

pub returns-clause-unique : goal.returns-clause-unique
returns-clause-unique c = Rounds-unique

pub returns-clause-half_up : goal.returns-clause-half_up
returns-clause-half_up c = Rounds-half
