-- A cause that the store tells is one of the fault that the program prints.
use Rattle.std.proofs.Common.{◌≡◌, ◌⊎◌, ◌∙◌, ap, sym, subst, refl, Option, Some, None, IfSome, IsSomeAnd}
use Rattle.sqlite_disk.specs.declared.Disk.{Ghosts}
use Rattle.sqlite_disk.specs.declared.Files as disk
use Rattle.sqlite.specs.declared.FileStore.{FileStore}
use Rattle.sqlite.specs.declared.file.Leftover.{Leftover}
use Rattle.sqlite.specs.Files.{file_state, IsCleanLeft}
use Rattle.sqlite.specs.State.{HasCleanDisk}
use Rattle.sqlite.specs.Recovery.{Image}
use Rattle.ee_store_files.specs.Causes.{IsOfSystem, error_of}
use Rattle.ee_store_files.specs.declared.causes.OpenCause.{OpenCause}
use Rattle.ee_store_files.specs.declared.causes.OpenCause.TheVariants as opening
use Rattle.ee_store_schema.specs.Faults.{fault_of}
use Rattle.ee_store_files.specs.Files.{Leaves}
use Rattle.ee_store_files.specs.Opening.{IsCauseOf}
use Rattle.ee_store_schema.specs.declared.faults.OpenFault.{OpenFault}
use Rattle.ee_store_schema.specs.declared.faults.OpenFault.TheVariants as kind
use Rattle.ee_store.specs.declared.opening.Rest.{Rest}
use Rattle.ee_store.specs.declared.opening.Rest.TheVariants.{Connection, Files}
use Rattle.ee_store.specs.Adopted.{IfConnection, IfFiles, IsRefusedFrom}
use Rattle.ee_store.specs.Holding.{KeepsHeld}
use Rattle.ee_cli_actions.specs.declared.faults.RunFault.{RunFault}
use Rattle.ee_cli_program.specs.Told.{fault_of_cause}
use Rattle.ee_cli_stores.specs.declared.files.Refused.{Refused}
use Rattle.ee_cli_stores.specs.Faults.{fault_of_opening, HasCause, IsOfFiles, IsStill}
use Rattle.ee_cli_stores.specs.Inner.Faults.{IsLeftOf}

same_fault : (cause : OpenCause) → fault_of_opening (fault_of (error_of cause)) ≡ fault_of_cause cause
same_fault opening.NoMemory = refl
same_fault opening.NoFile = refl
same_fault opening.InUse = refl
same_fault opening.Journal = refl
same_fault (opening.System kind) = refl
same_fault opening.NoRandom = refl
same_fault opening.NoDatabase = refl
same_fault opening.Orphaned = refl
same_fault opening.Damaged = refl
same_fault opening.Full = refl
same_fault opening.Failed = refl

pub is_told : (told : Option OpenCause) (opened : OpenFault) (fault : RunFault) → fault ≡ fault_of_opening opened
    → IfSome told (λ cause. opened ≡ fault_of (error_of cause)) → IfSome told (λ cause. fault ≡ fault_of_cause cause)
is_told None opened fault is cause = tt
is_told (Some told) opened fault is cause = is ∙ ap fault_of_opening cause ∙ same_fault told

with_cause : {L : Type 0} (told : Option OpenCause) (fault : OpenFault) (P : L → OpenCause → Type 0) (left : L) → IfSome told (λ cause. fault ≡ fault_of (error_of cause))
    → IsSomeAnd told (P left) → (cause : OpenCause) × (fault ≡ fault_of (error_of cause)) × P left cause
with_cause None fault P left is why = absurd why
with_cause (Some cause) fault P left is why = (cause, is, why)

of_system : (told : Option OpenCause) (fault : OpenFault) → IfSome told (λ cause. fault ≡ fault_of (error_of cause))
    → IsSomeAnd told IsOfSystem → (cause : OpenCause) × (fault ≡ fault_of (error_of cause)) × IsOfSystem cause
of_system None fault is why = absurd why
of_system (Some cause) fault is why = (cause, is, why)

-- what was said if files were settled
pub of_settled : {S L : Type 0} (rest : Rest S L) (Settled : Type 0) (P Q : L → Type 0) → Settled
    → IfFiles rest (λ left. IsSomeAnd left (λ it. P it → Settled → Q it)) → IfFiles rest (λ left. IfSome left (λ it. P it → Q it))
of_settled (Connection conn) Settled P Q settled it = tt
of_settled (Files None) Settled P Q settled it = absurd it
of_settled (Files (Some left)) Settled P Q settled it = λ clean. it clean settled

-- What is said of a store that wasn't opened holds of what is left of it, by what was said as it came back.
module _ {D : Type 0} {g : Ghosts D} (fault : OpenFault) where
  pub is_still : (held : Image) (rest : Rest (FileStore D g) (Leftover D g)) (it : Refused D g) → IsLeftOf rest it
      → IfConnection rest (λ conn. HasCleanDisk (file_state conn) → IsRefusedFrom held fault conn)
      → IfFiles rest (λ left. IfSome left (λ left. IsCleanLeft left → KeepsHeld held left)) → IsStill held fault it
  is_still held (Connection conn) it (last, same, handed) from kept = subst (IsStill held fault) (sym same) (conn, handed, from)
  is_still held (Files (Some left)) it same from kept = subst (IsStill held fault) (sym same) kept
  is_still held (Files None) it same from kept = subst (IsStill held fault) (sym same) tt

  pub is_of_files : (rest : Rest (FileStore D g) (Leftover D g)) (it : Refused D g) → IsLeftOf rest it
      → IfFiles rest (λ _. (fault ≡ kind.NoMemory) ⊎ (fault ≡ kind.StoreFailed)) → IsOfFiles fault it
  is_of_files (Connection conn) it (last, same, handed) one = subst (IsOfFiles fault) (sym same) tt
  is_of_files (Files (Some left)) it same one = subst (IsOfFiles fault) (sym same) one
  is_of_files (Files None) it same one = subst (IsOfFiles fault) (sym same) one

  pub has_cause : (IsLog IsDb : disk.Files D → Type 0) (told : Option OpenCause) → IfSome told (λ cause. fault ≡ fault_of (error_of cause))
      → (rest : Rest (FileStore D g) (Leftover D g)) (it : Refused D g) → IsLeftOf rest it
      → IfFiles rest (λ left. IfSome left (λ left. IsSomeAnd told (λ why. (files : disk.Files D) × IsLog files × IsDb files × (IsCleanLeft left → IsCauseOf files left why))))
      → IfFiles rest (λ left. IfSome left (λ left. (files : disk.Files D) × IsLog files × IsDb files × (IsCleanLeft left → Leaves files left)))
      → IfFiles rest (λ left. left ≡ None → IsSomeAnd told IsOfSystem) → HasCause IsLog IsDb fault it
  has_cause IsLog IsDb told is (Connection conn) it (last, same, handed) why left nothing = subst (HasCause IsLog IsDb fault) (sym same) tt
  has_cause IsLog IsDb told is (Files (Some rest)) it same why left nothing = subst (HasCause IsLog IsDb fault) (sym same)
      (with_cause told fault (λ rest cause. (files : disk.Files D) × IsLog files × IsDb files × (IsCleanLeft rest → IsCauseOf files rest cause)) rest is why, left)
  has_cause IsLog IsDb told is (Files None) it same why left nothing = subst (HasCause IsLog IsDb fault) (sym same) (of_system told fault is (nothing refl))
