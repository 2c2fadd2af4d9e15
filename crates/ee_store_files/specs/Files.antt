-- What two files hold when a store is opened in them, and what is left of them if it isn't.
use Rattle.std.specs.Prelude.{◌≡◌, ◌⊎◌, ◌<◌, ℕ, length}
use Rattle.sqlite_disk.specs.declared.Disk.{Ghosts}
use Rattle.sqlite_disk.specs.declared.Files.{Files}
use Rattle.sqlite_pool.specs.Opening.{IsBlankFile}
use Rattle.sqlite.specs.Recovery.{Image}
use Rattle.sqlite.specs.WalFiles.{outcomes}
use Rattle.sqlite.specs.Tree.{Trees}
use Rattle.sqlite.specs.State.{State}
use Rattle.sqlite.specs.Files.{image_of, HoldsDatabase, AreFoundIn, IsEmpty, LeavesFiles}
use Rattle.sqlite_store.specs.Unopened.{state_of}
use Rattle.sqlite_store.specs.FileStore.{recovers}
use Rattle.ee_store_files.specs.Damage.{IsDamaged}
use Rattle.ee_store_files.specs.Orphans.{IsMarked, IsOrphan}
use Rattle.sqlite.specs.declared.file.Leftover.{Leftover}
use Rattle.sqlite.specs.declared.file.Leftover.TheVariants as left

-- a new store has pages of 1,024 bytes; each ends with a checksum of 8 bytes
abbrev pub page_size : ℕ
page_size = 1016

-- the file is one byte, and no crash left it there as a database was created
abbrev pub IsStray : Image → Type 0
IsStray image = (length image.db ≡ 1) × (¬ IsMarked image.log)

-- No database was created yet: the file is empty, or a crash left a first page of this size half written.
abbrev pub IsUncreated : Image → Type 0
IsUncreated = IsBlankFile page_size

-- An open found the database that the files hold, whose log isn't damaged; or empty trees, if none was created yet. The log isn't
-- one whose file is gone.
pub record Finds (image : Image) (s : State) : Type 0 where
  pub holds : (db : Trees) → HoldsDatabase image db → s.committed.trees ≡ db
  pub reads : AreFoundIn image s.committed.trees ⊎ (IsUncreated image × IsEmpty s.committed.trees)
  pub taken : ¬ IsStray image
  pub intact : (IsUncreated image × (0 < length image.db)) ⊎ (¬ IsDamaged image)
  pub with_its_file : ¬ IsOrphan image
  pub blank : IsUncreated image → IsEmpty s.committed.trees

-- what a crash leaves as a database is created: none yet, or an empty one
abbrev pub IsOnTheWay : Image → Type 0
IsOnTheWay image = IsUncreated image ⊎ ∥ ((db : Trees) × HoldsDatabase image db × IsEmpty db) ∥₁

module _ {D : Type 0} {g : Ghosts D} where
  -- what is left of files in which a database was to be created
  abbrev pub LeavesNew : Files D → Leftover D g → Type 0
  LeavesNew files (left.Files now) = (image : Image) → outcomes g now.log now.db image → outcomes g files.log files.db image
  LeavesNew files (left.Unopened now) = (image : Image) → (state_of now).may_leave image → outcomes g files.log files.db image ⊎ IsOnTheWay image
  LeavesNew files (left.Store now) = (db : Trees) → recovers now db → IsEmpty db

  -- What is left of files recovers to what was there; or to no database or an empty one, if none was created yet.
  abbrev pub Leaves : Files D → Leftover D g → Type 0
  Leaves files rest = LeavesFiles files rest ⊎ (IsUncreated (image_of g files) × LeavesNew files rest)
