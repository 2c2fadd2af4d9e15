use Rattle.std.proofs.Common.{rules}
use Rattle.ee_desk_decide.proofs.values.worth.Goals as goal

pub unreachable-requires : goal.unreachable-requires
unreachable-requires c = search rules

pub returns-clause-value : goal.returns-clause-value
returns-clause-value c = search rules
