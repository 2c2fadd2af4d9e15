use Rattle.std.proofs.Common.{rules}
use Rattle.ee_store_tables.proofs.failures.FailureFromError.from.Goals as goal

pub returns-in-SqliteFailure-OutOfMemory : goal.returns-in-SqliteFailure-OutOfMemory
returns-in-SqliteFailure-OutOfMemory c = search rules
