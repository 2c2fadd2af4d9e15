-- What tested reads mean as a store ends.
use Rattle.std.proofs.Common.{◌≡◌, IsTrue, inl, inr, sym, subst}
use Rattle.std.proofs.lemmas.Bool.{and_from}
use Rattle.sqlite_disk.specs.declared.Disk.{Ghosts}
use Rattle.sqlite_disk.specs.declared.Files.{Files}
use Rattle.sqlite.specs.declared.FileStore.{FileStore}
use Rattle.sqlite.specs.FileStore.{files as store_files, is_shielded}
use Rattle.sqlite.proofs.Shield.{ends_well}
use Rattle.ee_store.specs.Ended.{AreCleanOrCollided}

pub clean_or_collided : {D : Type 0} (g : Ghosts D) (last : FileStore D g) (files : Files D) → store_files last ≡ (files.log, files.db) → is_shielded last
    → AreCleanOrCollided g files
clean_or_collided g last files are shielded start history recorded =
    elim (ends_well start history recorded.fair recorded.keyed last files.log files.db are shielded) [
      | inl honest ↦ inl (and_from _ _ (subst IsTrue (sym (recorded.clean files.log)) honest.0) (subst IsTrue (sym (recorded.clean files.db)) honest.1))
      | inr collided ↦ inr collided
    ]
