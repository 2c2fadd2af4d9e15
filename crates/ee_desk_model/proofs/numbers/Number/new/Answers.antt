use Rattle.std.proofs.Common.{rules}
use Rattle.ee_desk_model.proofs.numbers.Number.new.Goals as goal

pub invariant_of-result : goal.invariant_of-result
invariant_of-result c = search rules

pub returns-then-value-le9223372036854775807 : goal.returns-then-value-le9223372036854775807
returns-then-value-le9223372036854775807 c = search rules
