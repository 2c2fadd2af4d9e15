-- Why the files at a path aren't opened.
use Rattle.std.specs.Prelude.{⊤}
use Rattle.sqlite.specs.declared.error.Error.{Error}
use Rattle.sqlite.specs.declared.error.Error.TheVariants.{SqliteFailure}
use Rattle.sqlite.specs.declared.error.ErrorCode.TheVariants as code
use Rattle.ee_store_files.specs.declared.causes.OpenCause.{OpenCause}
use Rattle.ee_store_files.specs.declared.causes.OpenCause.TheVariants as cause

-- the cause for an error with which the files aren't opened
abbrev pub cause_of_error : Error → OpenCause
cause_of_error (SqliteFailure code.OutOfMemory) = cause.NoMemory
cause_of_error (SqliteFailure code.NotADatabase) = cause.NoDatabase
cause_of_error (SqliteFailure code.CannotOpen) = cause.Orphaned
cause_of_error (SqliteFailure code.DatabaseCorrupt) = cause.Damaged
cause_of_error (SqliteFailure code.DiskFull) = cause.Full
cause_of_error e = cause.Failed

-- the error for a cause
abbrev pub error_of : OpenCause → Error
error_of cause.NoMemory = SqliteFailure code.OutOfMemory
error_of cause.NoFile = SqliteFailure code.CannotOpen
error_of cause.InUse = SqliteFailure code.DatabaseBusy
error_of cause.Journal = SqliteFailure code.CannotOpen
error_of (cause.System k) = SqliteFailure code.CannotOpen
error_of cause.NoRandom = SqliteFailure code.CannotOpen
error_of cause.NoDatabase = SqliteFailure code.NotADatabase
error_of cause.Orphaned = SqliteFailure code.CannotOpen
error_of cause.Damaged = SqliteFailure code.DatabaseCorrupt
error_of cause.Full = SqliteFailure code.DiskFull
error_of cause.Failed = SqliteFailure code.SystemIoFailure

-- the system opened no file, so nothing of a file is said
abbrev pub IsOfSystem : OpenCause → Type 0
IsOfSystem cause.NoMemory = ⊤
IsOfSystem cause.NoFile = ⊤
IsOfSystem cause.InUse = ⊤
IsOfSystem cause.Journal = ⊤
IsOfSystem (cause.System k) = ⊤
IsOfSystem cause.NoRandom = ⊤
IsOfSystem _ = ⊥
