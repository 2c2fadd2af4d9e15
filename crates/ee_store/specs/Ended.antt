-- A store in a file at rest, and why it isn't.
use Rattle.std.specs.Prelude.{◌≡◌, ◌⊎◌, ℕ, false, List}
use Rattle.sqlite_disk.specs.Disk.{MoreFaults}
use Rattle.sqlite_disk.specs.Events.{Event, replay, HasCollision}
use Rattle.sqlite_disk.specs.declared.Disk.{Ghosts}
use Rattle.sqlite_disk.specs.declared.Files.{Files}
use Rattle.sqlite.specs.Tree.{Trees}
use Rattle.sqlite.specs.Recovery.{Image}
use Rattle.sqlite.specs.WalFiles.{outcomes}
use Rattle.sqlite.specs.WalReads.{AreClean}
use Rattle.sqlite.specs.declared.FileStore.{FileStore}
use Rattle.sqlite.specs.FileStore.{faults}
use Rattle.sqlite.specs.Held.{Held}
use Rattle.sqlite.specs.Files.{image_of, file_state}
use Rattle.sqlite.specs.Closing.{HoldsAlone}
use Rattle.ee_desk_model.specs.Repeats.{Content}
use Rattle.ee_store_tables.specs.declared.failures.Failure.{Failure}
use Rattle.ee_store_tables.specs.declared.failures.Failure.TheVariants.{StoreFailed}
use Rattle.ee_store_books.specs.Seen.{StandsFor, HasContent}

-- the two files are a store of the content, and so is the database file without its log
pub record StandsAlone (image : Image) (content : Content) : Type 0 where
  pub db : Trees
  pub holds : HoldsAlone image db
  pub stands : StandsFor db content

-- the files are such a store, as they read and as a crash may leave them
pub record IsAtRest {D : Type 0} (g : Ghosts D) (files : Files D) (content : Content) : Type 0 where
  pub seen : StandsAlone (image_of g files) content
  pub left : (image : Image) → outcomes g files.log files.db image → StandsAlone image content

-- the files are at rest with each content that the store had, if the disks returned what was written
abbrev pub RestsIn : {D : Type 0} {g : Ghosts D} → Held (FileStore D g) → Files D → Type 0
RestsIn {g = g} c files = AreClean g files.log files.db → (content : Content) → HasContent (file_state c) content → IsAtRest g files content

-- the store is reported as failed only if the device failed once more, or it was shut before
abbrev pub FailsToEnd : {D : Type 0} {g : Ghosts D} → Held (FileStore D g) → FileStore D g → Failure → Type 0
FailsToEnd c last failure = failure ≡ StoreFailed → MoreFaults (faults c.store) (faults last) ⊎ ((file_state c).is_open ≡ false)

-- ---- reads that are tested

-- the disks are as the records of their calls say, which began with these bytes; the files of this system keep such records
pub record AreRecorded {D : Type 0} (g : Ghosts D) (start : D → List ℕ) (history : D → List Event) : Type 0 where
  pub clean : (d : D) → g.is_clean d ≡ (replay (start d) (history d)).is_honest
  pub fair : (d : D) → g.is_fair d ≡ (replay (start d) (history d)).is_fair
  pub keyed : (d : D) → g.key_of d ≡ (replay (start d) (history d)).key

-- a tested read of one of the files returned other bytes than were written there, of the same digest under the log's key
abbrev pub HasCollided : {D : Type 0} → (D → List ℕ) → (D → List Event) → Files D → Type 0
HasCollided start history files =
    HasCollision (replay (start files.log) (history files.log)).key (start files.log) (history files.log)
    ⊎ HasCollision (replay (start files.log) (history files.log)).key (start files.db) (history files.db)

-- the disks returned what was written, or two pages have one digest
abbrev pub AreCleanOrCollided : {D : Type 0} → Ghosts D → Files D → Type 0
AreCleanOrCollided {D} g files = (start : D → List ℕ) (history : D → List Event) → AreRecorded g start history
    → AreClean g files.log files.db ⊎ HasCollided start history files

-- so it is of a store whose reads were tested
abbrev pub EndsTested : {D : Type 0} {g : Ghosts D} → Held (FileStore D g) → Files D → Type 0
EndsTested {g = g} c files = (file_state c).IsShielded → AreCleanOrCollided g files
