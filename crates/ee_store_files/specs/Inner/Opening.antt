-- Definitions that private contracts alone cite; specs/Opening.antt has the others.
use Rattle.std.specs.Prelude.{◌⊎◌, ◌≤◌, ℕ, List, length}
use Rattle.sqlite_wal.specs.declared.error.Error as log_error
use Rattle.sqlite_wal.specs.declared.error.Error.TheVariants as log
use Rattle.sqlite_wal.specs.Recovery.{Image, frame_at}
use Rattle.sqlite.specs.Files.{IsTooLong}
use Rattle.sqlite.specs.declared.error.Error.{Error}
use Rattle.sqlite.specs.declared.error.Error.TheVariants.{SqliteFailure}
use Rattle.sqlite.specs.declared.error.ErrorCode.TheVariants as code
use Rattle.ee_store_files.specs.Opening.{Fails, Refuses}

-- ---- a call that fails

-- 32 bits don't number the frames of the log
abbrev pub IsLongFor : ℕ → List ℕ → Type 0
IsLongFor page_size log = frame_at page_size 0xffff_fffe ≤ length log

-- the error for a log that couldn't be examined, or that recovery refuses
abbrev pub error_of_probe : log_error.Error → Error
error_of_probe (log.Io e) = SqliteFailure code.SystemIoFailure
error_of_probe log.OutOfMemory = SqliteFailure code.OutOfMemory
error_of_probe log.Full = SqliteFailure code.DiskFull
error_of_probe e = SqliteFailure code.DatabaseCorrupt

-- ---- files that are refused for what they hold

-- a call that only reads the files fails, or refuses them
abbrev pub FailsToRead : Image → ℕ → ℕ → Error → Type 0
FailsToRead image old new e = Fails old new (IsTooLong image) e ⊎ Refuses image e
