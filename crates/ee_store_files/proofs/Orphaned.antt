-- A log whose database file is gone.
use Rattle.std.proofs.Common.{◌⊎◌, ◌<◌, ℕ, List, length, inl, inr, arith}
use Rattle.std.proofs.lemmas.Bool.{cases_lt}
use Rattle.sqlite_disk.specs.declared.Disk.{Ghosts}
use Rattle.sqlite_wal.specs.Recovery.{Image}
use Rattle.sqlite_wal.proofs.LogLemmas.{SeenMayStay}
use Rattle.sqlite_pool.proofs.StateLemmas.{settled}
use Rattle.ee_store_files.specs.Damage.{BeginsAsLog, IsDamaged}
use Rattle.ee_store_files.specs.Files.{IsUncreated}
use Rattle.ee_store_files.specs.Orphans.{IsOfCreation, IsOrphan, SparesHeld, SparesPresent}
use Rattle.ee_store_files.proofs.Frames.{not_begun}

-- a log that a stopped creation leaves has no room for a frame
creation_is_short : (log : List ℕ) → IsOfCreation log → ¬ BeginsAsLog log
creation_is_short log it begins = omega (arith, it.0, begins.0)

-- the log beside an empty file isn't damaged, unless its file is gone
pub whole_if_empty : (image : Image) → IsUncreated image → ¬ IsOrphan image → (IsUncreated image × (0 < length image.db)) ⊎ (¬ IsDamaged image)
whole_if_empty image uncreated with_its_file =
    elim (cases_lt 0 (length image.db)) [
      | inl some ↦ inl (uncreated, some)
      | inr none ↦ inr (λ damaged. with_its_file (omega (arith, none), λ creation. not_begun image (creation_is_short image.log creation) (λ lost. omega (arith, creation.0, lost.0)) damaged))
    ]

pub spares_held : SparesHeld
spares_held image db held orphan =
    let present = held.2.found.found.present in
    absurd (omega (arith, present, orphan.0))

pub spares_present : {D : Type 0} (g : Ghosts D) → SeenMayStay g → SparesPresent g
spares_present g stays it is_open image may orphan =
    let present = ((settled it.pool stays is_open).durable image may).found.present in
    absurd (omega (arith, present, orphan.0))
