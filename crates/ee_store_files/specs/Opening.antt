-- Why two files aren't opened.
use Rattle.std.specs.Prelude.{◌≡◌, ◌⊎◌, ℕ, List, IsTrue}
use Rattle.sqlite_disk.specs.declared.Disk.{Ghosts}
use Rattle.sqlite_disk.specs.declared.Files.{Files}
use Rattle.sqlite_disk.specs.Disk.{MoreFaults}
use Rattle.sqlite_wal.specs.declared.error.Error.TheVariants as log
use Rattle.sqlite_wal.specs.PageSize.{IsPageSize}
use Rattle.sqlite_wal.specs.Recovery.{Image, Replays}
use Rattle.sqlite.specs.Tree.{Trees}
use Rattle.sqlite.specs.State.{is_disk_error}
use Rattle.sqlite.specs.Files.{image_of, faults_of, faults_left, HoldsDatabase, IsNothing, IsFullLeft}
use Rattle.sqlite.specs.declared.error.Error.{Error}
use Rattle.sqlite.specs.declared.error.Error.TheVariants.{SqliteFailure}
use Rattle.sqlite.specs.declared.error.ErrorCode.TheVariants as code
use Rattle.sqlite.specs.declared.file.Leftover.{Leftover}
use Rattle.ee_store_files.specs.declared.causes.OpenCause.{OpenCause}
use Rattle.ee_store_files.specs.Causes.{cause_of_error}
use Rattle.ee_store_files.specs.Damage.{IsDamaged}
use Rattle.ee_store_files.specs.Orphans.{IsOrphan}
use Rattle.ee_store_files.specs.Files.{IsStray}

-- ---- a call that fails

-- memory was refused, a call on a file failed between these two counts, or the files are at a limit
abbrev pub Fails : ℕ → ℕ → Type 0 → Error → Type 0
Fails old new AtLimit e =
    (e ≡ SqliteFailure code.OutOfMemory) ⊎ ((IsTrue (is_disk_error e) × MoreFaults old new) ⊎ ((e ≡ SqliteFailure code.DiskFull) × AtLimit))

-- ---- files that are refused for what they hold

-- Recovery takes the file for a log, and refuses it for every page size: another program wrote it, or another version of SQLite.
abbrev pub IsForeign : List ℕ → Type 0
IsForeign log = (page_size k : ℕ) → IsPageSize page_size → ¬ Replays page_size log k

-- the files hold a database, or what `sqlite` takes for none yet, as an empty file is
abbrev pub IsToOpen : Image → Type 0
IsToOpen image = IsNothing image ⊎ ((db : Trees) × HoldsDatabase image db)

-- the files are refused with this error for what they hold
abbrev pub Refuses : Image → Error → Type 0
Refuses image e =
    ((e ≡ SqliteFailure code.CannotOpen) × IsOrphan image)
    ⊎ (((e ≡ SqliteFailure code.NotADatabase) × (IsStray image ⊎ (¬ IsToOpen image)))
    ⊎ ((e ≡ SqliteFailure code.DatabaseCorrupt) × (IsDamaged image ⊎ (IsForeign image.log ⊎ (¬ IsToOpen image)))))

-- an open fails, or refuses the files
abbrev pub FailsToOpen : {D : Type 0} {g : Ghosts D} → Files D → Leftover D g → Error → Type 0
FailsToOpen {g = g} files rest e = Fails (faults_of g files) (faults_left rest) (IsFullLeft rest) e ⊎ Refuses (image_of g files) e

-- this is why the files weren't opened
abbrev pub IsCauseOf : {D : Type 0} {g : Ghosts D} → Files D → Leftover D g → OpenCause → Type 0
IsCauseOf files rest cause = (e : Error) × (cause ≡ cause_of_error e) × FailsToOpen files rest e
