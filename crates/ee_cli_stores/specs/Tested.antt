-- What the files of this system returned, if their reads were tested.
use Rattle.std.specs.Prelude.{◌⊎◌}
use Rattle.sqlite_disk.specs.Modelled.{start_of}
use Rattle.sqlite_disk.specs.declared.Disk as disk
use Rattle.sqlite_disk.specs.declared.Files.{Files}
use Rattle.sqlite_disk.specs.declared.calls.Calls as calls
use Rattle.sqlite_disk.specs.declared.modelled.Modelled.{Modelled}
use Rattle.sqlite_disk.specs.declared.start.Start.{Ghosts}
use Rattle.sqlite.specs.WalReads.{AreClean}
use Rattle.sqlite.specs.declared.FileStore.{FileStore}
use Rattle.sqlite.specs.Files.{file_state}
use Rattle.sqlite.specs.Held.{Held}
use Rattle.sqlite.specs.State.{HasCleanDisk}
use Rattle.sqlite_std_file.specs.declared.host.Host.{Host}
use Rattle.ee_store.specs.Ended.{HasCollided}

-- if the files returned what was written there, so did the store's calls
abbrev pub WasClean : {D : Type 0} {g : disk.Ghosts D} → Held (FileStore D g) → Files D → Type 0
WasClean {g = g} c files = AreClean g files.log files.db → HasCleanDisk (file_state c)

-- If the reads of the store were tested, both files returned what was written there, or two pages had one 64-bit digest: the records of
-- the files' calls say so.
abbrev pub IsTested : {S : Type 0} {h : calls.Ghosts Host} (start : Ghosts S) {g : disk.Ghosts (Modelled Host S h start)}
    → Held (FileStore (Modelled Host S h start) g) → Files (Modelled Host S h start) → Type 0
IsTested start {g} c files = (file_state c).IsShielded → AreClean g files.log files.db ⊎ HasCollided (start_of start) (λ f. f.calls.log.events) files
