use Rattle.std.proofs.Common.{rules}
use Rattle.ee_value.specs.Chain.{rate_in}
use Rattle.ee_value.proofs.rates.Rates.rate_in.Goals as goal

pub returns-clause-value : goal.returns-clause-value
unfolding rate_in
returns-clause-value c = search rules
