-- Definitions that private contracts alone cite; specs/Faults.antt has the others.
use Rattle.std.specs.Prelude.{◌≡◌, Some, None}
use Rattle.sqlite_disk.specs.declared.Disk.{Ghosts}
use Rattle.sqlite.specs.declared.FileStore.{FileStore}
use Rattle.sqlite.specs.declared.file.Leftover.{Leftover}
use Rattle.ee_store.specs.declared.opening.Rest.{Rest}
use Rattle.ee_store.specs.declared.opening.Rest.TheVariants as unopened
use Rattle.ee_cli_stores.specs.declared.files.Refused.{Refused}
use Rattle.ee_cli_stores.specs.declared.files.Refused.TheVariants as refused
use Rattle.ee_cli_stores.specs.Faults.{HandsBack}

module _ {D : Type 0} {g : Ghosts D} where
  -- the store of a connection is handed back, or what is left of files that `sqlite` didn't open
  abbrev pub IsLeftOf : Rest (FileStore D g) (Leftover D g) → Refused D g → Type 0
  IsLeftOf (unopened.Connection conn) it = (last : FileStore D g) × (it ≡ refused.Store last) × HandsBack conn last
  IsLeftOf (unopened.Files (Some left)) it = it ≡ refused.Files left
  IsLeftOf (unopened.Files None) it = it ≡ refused.Nothing
