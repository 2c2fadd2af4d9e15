use Rattle.ee_value.proofs.Extensions.{rates-back, named-other, named-same}
use Rattle.ee_value.proofs.laws.rates_law.Goals as goal

pub returns-clause-back : goal.returns-clause-back
returns-clause-back c = rates-back

pub returns-clause-named : goal.returns-clause-named
returns-clause-named c = named-other

pub returns-clause-same : goal.returns-clause-same
returns-clause-same c = named-same

pub returns-clause-unnamed : goal.returns-clause-unnamed
returns-clause-unnamed c = named-same
