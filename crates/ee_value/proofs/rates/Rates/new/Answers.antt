use Rattle.std.proofs.Common.{rules}
use Rattle.ee_value.proofs.rates.Rates.new.Goals as goal

pub returns-in-Some : goal.returns-in-Some
returns-in-Some c = search rules
