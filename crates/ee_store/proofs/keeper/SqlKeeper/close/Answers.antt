use Rattle.std.proofs.Common.{rules}
use Rattle.ee_store.proofs.keeper.SqlKeeper.close.Goals as goal

pub returns : goal.returns
returns g c = search rules
