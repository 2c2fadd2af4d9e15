-- A log whose database file is gone.
use Rattle.std.specs.Prelude.{◌≡◌, ◌+◌, ◌<◌, ◌≤◌, ℕ, List, length, slice_index, IsTrue}
use Rattle.sqlite_disk.specs.declared.Disk.{Ghosts}
use Rattle.sqlite_wal.specs.Recovery.{Image}
use Rattle.sqlite.specs.Tree.{Trees}
use Rattle.sqlite.specs.Files.{HoldsDatabase}
use Rattle.sqlite_store.specs.declared.store.FileStore.{FileStore}
use Rattle.sqlite_store.specs.FileStore.{state as store_state}

-- The log's header counts 2 ^ 32 - 1 checkpoints: it has that count only from when a file is created to its first checkpoint.
abbrev pub IsMarked : List ℕ → Type 0
IsMarked log = (16 ≤ length log) × ((i : ℕ) → i < 4 → slice_index log (12 + i) ≡ 255)

-- What a stop leaves of a log as a database is created: no more than a header and a frame's first nine bytes. Its first byte is written last,
-- behind the mark.
abbrev pub IsOfCreation : List ℕ → Type 0
IsOfCreation log = (length log ≤ 41) × (slice_index log 0 ≡ 0x37 → IsMarked log)

-- the database file is empty, and was there before: no stop leaves such a log as a database is created
abbrev pub IsOrphan : Image → Type 0
IsOrphan image = (length image.db ≡ 0) × (¬ IsOfCreation image.log)

-- ---- what is never taken for one

-- two files that hold a database
abbrev pub SparesHeld : Type 0
SparesHeld = (image : Image) (db : Trees) → HoldsDatabase image db → ¬ IsOrphan image

-- what a crash leaves of an open store
abbrev pub SparesPresent : {D : Type 0} → Ghosts D → Type 0
SparesPresent {D} g = (it : FileStore D g) → IsTrue (store_state it).is_open → (image : Image) → (store_state it).may_leave image → ¬ IsOrphan image
