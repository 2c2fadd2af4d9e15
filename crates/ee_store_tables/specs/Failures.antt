-- How errors of `sqlite` are reported.
use Rattle.sqlite.specs.declared.error.Error.{Error}
use Rattle.sqlite.specs.declared.error.Error.TheVariants.{SqliteFailure}
use Rattle.sqlite.specs.declared.error.ErrorCode.TheVariants.{OutOfMemory}
use Rattle.ee_store_tables.specs.declared.failures.Failure.{Failure}
use Rattle.ee_store_tables.specs.declared.failures.Failure.TheVariants.{NoMemory, StoreFailed}

-- want of memory is reported as such, and everything else as a store that failed (this project's rule)
abbrev pub failure_of : Error → Failure
failure_of (SqliteFailure OutOfMemory) = NoMemory
failure_of _ = StoreFailed
