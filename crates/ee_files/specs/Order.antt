-- The order in which a file's records are read, as a relation on whole lists.
use Rattle.std.specs.Prelude.{◌≡◌, ℕ, ◌+◌, List, [], ◌∷◌, ◌++◌, map, Result, Ok, Err}
use Rattle.ee_files.specs.Fields.{Bytes}
use Rattle.ee_files.specs.declared.faults.FileFault.{FileFault}

-- each record by itself, numbered from this row
unfoldable pub each : {A : Type 0} → (ℕ → List Bytes → Result A FileFault) → ℕ → List (List Bytes) → List (Result A FileFault)
each entry row [] = []
each entry row (fields ∷ rest) = entry row fields ∷ each entry (row + 1) rest

-- the fault that has no fault before it
pub record IsFirstFault {A : Type 0} (read : List (Result A FileFault)) (fault : FileFault) : Type 0 where
  pub before : List A
  pub after : List (Result A FileFault)
  pub parts : read ≡ map (λ x. Ok x) before ++ (Err fault ∷ after)

-- all rows if no record is at fault, and otherwise the first fault
abbrev pub AllOrFirstFault : {A : Type 0} → List (Result A FileFault) → Result (List A) FileFault → Type 0
AllOrFirstFault read (Ok rows) = read ≡ map (λ x. Ok x) rows
AllOrFirstFault read (Err fault) = IsFirstFault read fault
