use Rattle.std.proofs.Common.{rules}
use Rattle.ee_units.specs.Spelling.{hundredths_of}
use Rattle.ee_units.proofs.rates.hundredths.Goals as goal

pub returns-then-text-eq1-clause-value : goal.returns-then-text-eq1-clause-value
unfolding hundredths_of
returns-then-text-eq1-clause-value c = search rules
