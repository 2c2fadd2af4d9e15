-- A store is shut by a cause alone, and is tested as before after each call.
use Rattle.std.proofs.Common.{◌≡◌, ◌⊎◌, inl, inr, Bool, true, false, IsTrue, refl}
use Rattle.sqlite.specs.Tree.{Trees}
use Rattle.sqlite.specs.State.{State, HasCleanDisk, Survives}
use Rattle.ee_keeper.specs.Keeping.{IsShutByCause, Continues}
use Rattle.ee_store_tables.proofs.Lemmas.Transactions.{clean_before}

was_shut : (F : Type 0) (was_open is_open : Bool) → (IsTrue was_open → IsTrue is_open ⊎ F) → is_open ≡ false → F ⊎ (was_open ≡ false)
was_shut F false is_open closes shut = inr refl
was_shut F true is_open closes shut = elim (closes refl) [
  | inl still ↦ absurd (cc)
  | inr failed ↦ inl failed
]

shut_by_cause : (old new : State) (Commits : Trees → Type 0) → Survives old new Commits → HasCleanDisk new → IsShutByCause old.faults new.faults old.is_open new.is_open
shut_by_cause old new Commits survives clean = (survives.counts, was_shut _ old.is_open new.is_open (survives.closes clean))

pub continued : {Keeper : Type 0} (old new : Keeper) (at : Keeper → State) (Commits : Trees → Type 0) → Survives (at old) (at new) Commits
    → Continues (λ k. HasCleanDisk (at k)) (λ k. (at k).IsShielded) (λ k. (at k).is_open) (λ k. (at k).faults) old new
continued old new at Commits survives = record {
  clean = clean_before (at old) (at new) survives;
  guarded = survives.shield;
  shut = shut_by_cause (at old) (at new) Commits survives;
}
