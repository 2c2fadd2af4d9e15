use Rattle.std.proofs.Common.{rules}
use Rattle.ee_value.specs.Chain.{named_extension}
use Rattle.ee_value.proofs.rates.Rates.named_extension.Goals as goal

pub returns-else-eq : goal.returns-else-eq
unfolding named_extension
returns-else-eq c = search rules
