-- What two files hold, and that an open which fails leaves it there.
use Rattle.std.specs.Prelude.{◌≡◌, ◌⊎◌, ℕ, IsTrue, ⊤}
use Rattle.sqlite_disk.specs.declared.Disk.{Ghosts}
use Rattle.sqlite_disk.specs.declared.Files.{Files}
use Rattle.sqlite_wal.specs.PageSize.{IsPageSize}
use Rattle.sqlite_wal.specs.Recovery as raw
use Rattle.sqlite_wal.specs.Recovery.{AreWhole}
use Rattle.sqlite_pages.specs.PageMap.{PageMap}
use Rattle.sqlite_pool.specs.Stored.{stored_size, trimmed}
use Rattle.sqlite_store.specs.Unopened.{state_of}
use Rattle.sqlite_store.specs.FileStore.{state as store_state, view}
use Rattle.sqlite.specs.Recovery.{Image}
use Rattle.sqlite.specs.WalFiles.{outcomes}
use Rattle.sqlite.specs.Tree.{Trees}
use Rattle.sqlite.specs.Opening.{HoldsBy}
use Rattle.sqlite.specs.Files.{image_of, HoldsDatabase, AreFoundIn, IsNothing, IsEmpty}
use Rattle.sqlite.specs.declared.file.Leftover.{Leftover}
use Rattle.sqlite.specs.declared.file.Leftover.TheVariants as left
use Rattle.ee_store_files.specs.Files.{IsUncreated, Leaves}

-- recovery takes these pages, whatever checksums they end in
pub record ReadsAs (size : ℕ) (image : Image) (pages : PageMap) : Type 0 where
  pub stored : PageMap
  pub found : raw.Recovers (stored_size size) image stored
  pub whole : AreWhole (stored_size size) stored
  pub shows : trimmed size stored ≡ pages

-- The files hold the database, whatever checksums its pages end in. `HoldsDatabase` of `sqlite` asks for them outside the log.
abbrev pub HoldsPages : Image → Trees → Type 0
HoldsPages image db = (size : ℕ) × IsPageSize (stored_size size) × HoldsBy (ReadsAs size image) size db

-- No database was created in the files yet, by this program or by `sqlite`, or they hold an empty one.
abbrev pub HoldsNone : Image → Type 0
HoldsNone image = (IsUncreated image ⊎ IsNothing image) ⊎ ∥ ((db : Trees) × HoldsPages image db × IsEmpty db) ∥₁

-- the later files hold what the earlier ones held
pub record HoldsOn (was now : Image) : Type 0 where
  pub database : (db : Trees) → HoldsPages was db → ∥ HoldsPages now db ∥₁
  pub none : HoldsNone was → HoldsNone now

-- ---- what is left of files that aren't opened

module _ {D : Type 0} {g : Ghosts D} where
  -- a crash may leave these two files of it
  abbrev pub MayBeLeft : Leftover D g → Image → Type 0
  MayBeLeft (left.Files now) image = outcomes g now.log now.db image
  MayBeLeft (left.Unopened now) image = (state_of now).may_leave image
  MayBeLeft (left.Store now) image = (store_state now).may_leave image

  -- if it is a store, its trees have the numbers under which `sqlite` lists them
  abbrev pub IsNumberedLeft : Leftover D g → Type 0
  IsNumberedLeft (left.Files now) = ⊤
  IsNumberedLeft (left.Unopened now) = ⊤
  IsNumberedLeft (left.Store now) = IsTrue (view now).is_numbered

  -- whatever a crash leaves of it holds what the files held at first
  abbrev pub KeepsHeld : Image → Leftover D g → Type 0
  KeepsHeld start rest = IsNumberedLeft rest → (image : Image) → MayBeLeft rest image → HoldsOn start image

-- a crash leaves of the files what they hold, as of files that were just opened
abbrev pub AreSettled : {D : Type 0} → Ghosts D → Files D → Type 0
AreSettled g files = (image : Image) → outcomes g files.log files.db image → image ≡ image_of g files

-- ---- the law

-- what `sqlite` takes for a database holds it
abbrev pub TakesHeld : Type 0
TakesHeld = (image : Image) (db : Trees) → HoldsDatabase image db → HoldsPages image db

-- the files are of the two kinds that an open takes, and it finds these trees (`Finds`)
abbrev pub IsFoundIn : Image → Trees → Type 0
IsFoundIn image trees = AreFoundIn image trees ⊎ (IsUncreated image × IsEmpty trees)

-- files that are opened hold for `sqlite` the database that they hold
abbrev pub FindsHeld : Type 0
FindsHeld = (image : Image) (db trees : Trees) → HoldsPages image db → IsFoundIn image trees → HoldsDatabase image db

-- and if no database was created in them, an open finds empty trees
abbrev pub FindsNone : Type 0
FindsNone = (image : Image) (trees : Trees) → IsUncreated image ⊎ IsNothing image → IsFoundIn image trees → IsEmpty trees

-- an open that fails leaves what the files held
abbrev pub LeavesHeld : {D : Type 0} → Ghosts D → Type 0
LeavesHeld {D} g = (files : Files D) (rest : Leftover D g) → AreSettled g files → Leaves files rest → KeepsHeld (image_of g files) rest
