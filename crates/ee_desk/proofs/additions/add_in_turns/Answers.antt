use Rattle.std.proofs.Common.{rules}
use Rattle.ee_desk.proofs.additions.add_in_turns.Goals as goal

pub returns-clause-ok : goal.returns-clause-ok
returns-clause-ok c = search rules
