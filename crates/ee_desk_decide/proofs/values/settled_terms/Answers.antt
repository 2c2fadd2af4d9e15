use Rattle.std.proofs.Common.{rules}
use Rattle.ee_desk_decide.proofs.values.settled_terms.Goals as goal

pub returns-in-Ok : goal.returns-in-Ok
returns-in-Ok c = search rules

pub unreachable-requires : goal.unreachable-requires
unreachable-requires c = search rules
