use Rattle.std.proofs.Common.{rules}
use Rattle.ee_counter.proofs.connections.has_failed.Goals as goal

pub returns-in-Unserved-StoreFailed : goal.returns-in-Unserved-StoreFailed
returns-in-Unserved-StoreFailed c = search rules
