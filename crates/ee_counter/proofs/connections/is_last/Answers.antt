use Rattle.std.proofs.Common.{rules}
use Rattle.ee_counter.proofs.connections.is_last.Goals as goal

pub returns-else-closes : goal.returns-else-closes
returns-else-closes c = search rules
