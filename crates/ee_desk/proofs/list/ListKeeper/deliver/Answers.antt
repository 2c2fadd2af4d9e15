use Rattle.std.proofs.Common.{rules}
use Rattle.ee_desk.proofs.list.ListKeeper.deliver.Goals as goal

pub returns-in-Err-clause-memory : goal.returns-in-Err-clause-memory
returns-in-Err-clause-memory c = search rules
