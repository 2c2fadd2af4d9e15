-- The fault of a store that isn't opened, and what is left of one that isn't opened or isn't closed.
use Rattle.std.specs.Prelude.{◌≡◌, ◌⊎◌, ⊤}
use Rattle.sqlite_disk.specs.declared.Disk.{Ghosts}
use Rattle.sqlite_disk.specs.declared.Files.{Files}
use Rattle.sqlite.specs.declared.FileStore.{FileStore}
use Rattle.sqlite.specs.Tree.{Trees}
use Rattle.sqlite.specs.FileStore.{recovers, view}
use Rattle.sqlite.specs.View.{IsClean}
use Rattle.sqlite.specs.Held.{Held}
use Rattle.sqlite.specs.State.{HasCleanDisk}
use Rattle.sqlite.specs.Recovery.{Image}
use Rattle.sqlite.specs.Files.{file_state, IsCleanLeft}
use Rattle.ee_store_files.specs.declared.causes.OpenCause.{OpenCause}
use Rattle.ee_store_files.specs.Causes.{IsOfSystem, error_of}
use Rattle.ee_store_files.specs.Files.{Leaves}
use Rattle.ee_store_files.specs.Opening.{IsCauseOf}
use Rattle.ee_store.specs.Adopted.{IsRefusedFrom}
use Rattle.ee_store.specs.Holding.{KeepsHeld}
use Rattle.ee_store.specs.NextRun.{IsNumberedStore}
use Rattle.ee_desk_laws.specs.Events.{World}
use Rattle.ee_desk_laws.specs.Ties.{Leaves as LeavesWorld}
use Rattle.ee_store_books.specs.Seen.{StandsFor}
use Rattle.ee_store.specs.Served.{FollowsWorld}
use Rattle.ee_store_schema.specs.Faults.{fault_of}
use Rattle.ee_store_schema.specs.declared.faults.OpenFault.{OpenFault}
use Rattle.ee_store_schema.specs.declared.faults.OpenFault.TheVariants as opening
use Rattle.ee_cli_actions.specs.declared.faults.StoreFault.TheVariants as store
use Rattle.ee_cli_actions.specs.declared.faults.RunFault.{RunFault}
use Rattle.ee_cli_actions.specs.declared.faults.RunFault.TheVariants as fault
use Rattle.ee_cli_stores.specs.declared.files.Refused.{Refused}
use Rattle.ee_cli_stores.specs.declared.files.Refused.TheVariants as refused

abbrev pub fault_of_opening : OpenFault → RunFault
fault_of_opening opening.NoMemory = fault.NoMemory
fault_of_opening opening.StoreFailed = fault.Store store.StoreFailed
fault_of_opening opening.WrongVersion = fault.Store store.WrongVersion
fault_of_opening opening.Unusable = fault.Store store.Unusable

module _ {D : Type 0} {g : Ghosts D} where
  -- A store is handed back without what isn't committed. A crash leaves of it what it could leave before. If it is clean, it was so
  -- before, and its trees have the numbers under which `sqlite` lists them.
  abbrev pub HandsBack : Held (FileStore D g) → FileStore D g → Type 0
  HandsBack now last =
      ((db : Trees) → recovers last db → (file_state now).may_leave db) × (IsClean (view last) → HasCleanDisk (file_state now) × IsNumberedStore last)

  -- What first held this isn't opened for this fault, and is still there: the store was refused, and is left as it was found; or `sqlite`
  -- didn't open the files, and what is left of them holds what they held; or the system opened no file.
  abbrev pub IsStill : Image → OpenFault → Refused D g → Type 0
  IsStill start cause (refused.Store last) = (conn : Held (FileStore D g)) × HandsBack conn last × (HasCleanDisk (file_state conn) → IsRefusedFrom start cause conn)
  IsStill start cause (refused.Files left) = IsCleanLeft left → KeepsHeld start left
  IsStill start cause refused.Nothing = ⊤

  -- Why these files weren't opened. What is left of them recovers to what was there; if nothing is, the cause is the system's.
  abbrev pub HasCause : (Files D → Type 0) → (Files D → Type 0) → OpenFault → Refused D g → Type 0
  HasCause IsLog IsDb fault (refused.Store last) = ⊤
  HasCause IsLog IsDb fault (refused.Files left) =
      ((why : OpenCause) × (fault ≡ fault_of (error_of why)) × ((files : Files D) × IsLog files × IsDb files × (IsCleanLeft left → IsCauseOf files left why)))
      × ((files : Files D) × IsLog files × IsDb files × (IsCleanLeft left → Leaves files left))
  HasCause IsLog IsDb fault refused.Nothing = (why : OpenCause) × (fault ≡ fault_of (error_of why)) × IsOfSystem why

  -- only a store that was opened and refused has a fault of its own
  abbrev pub IsOfFiles : OpenFault → Refused D g → Type 0
  IsOfFiles cause (refused.Store last) = ⊤
  IsOfFiles cause (refused.Files left) = (cause ≡ opening.NoMemory) ⊎ (cause ≡ opening.StoreFailed)
  IsOfFiles cause refused.Nothing = (cause ≡ opening.NoMemory) ⊎ (cause ≡ opening.StoreFailed)

  -- what first held this isn't opened for this fault, which has a cause, and is still there
  abbrev pub IsRefused : (Files D → Type 0) → (Files D → Type 0) → Image → RunFault → Refused D g → Type 0
  IsRefused IsLog IsDb start told rest =
      (cause : OpenFault) × (told ≡ fault_of_opening cause) × IsOfFiles cause rest × HasCause IsLog IsDb cause rest × IsStill start cause rest

  -- A crash leaves of a store that couldn't be closed what it could leave before, so it still follows the store's events. If what is
  -- left is clean, so was the store.
  abbrev pub Keeps : Held (FileStore D g) → FileStore D g → Type 0
  Keeps now left =
      ((db : Trees) → recovers left db → (file_state now).may_leave db)
      × ((w : World) → FollowsWorld (file_state now) w → LeavesWorld StandsFor (recovers left) w)
      × (IsClean (view left) → HasCleanDisk (file_state now))
