-- Reading a source whole (this project's rule: a failed read is not repeated, and at most one byte beyond the limit is taken).
use Rattle.std.specs.Prelude.{◌≡◌, ℕ, ◌<◌, ◌≤◌, List, ◌++◌, length, Option, Some, Result, Ok, Err, ⊤}
use Rattle.ee_io.specs.declared.reading.ReadFault.{ReadFault}
use Rattle.ee_io.specs.declared.reading.ReadFault.TheVariants as fault

-- why the source was not read whole; a failed read and want of memory say nothing about its length
abbrev pub Unread : ℕ → List ℕ → ReadFault → Type 0
Unread most source fault.TooLong = most < length source
Unread most source fault.ReadFailed = ⊤
Unread most source fault.NoMemory = ⊤

-- all of the source, which has at most `most` bytes, or why not
abbrev pub ReadsWhole : {V : Type 0} → (V → List ℕ) → ℕ → List ℕ → Result V ReadFault → Type 0
ReadsWhole items most source (Ok v) = (items v ≡ source) × (length source ≤ most)
ReadsWhole items most source (Err e) = Unread most source e

-- at most `most` bytes were taken from the front of the source
pub record TakesAtMost (most : ℕ) (source : List ℕ) (left : Option (List ℕ)) : Type 0 where
  pub taken : List ℕ
  pub rest : List ℕ
  pub parts : source ≡ taken ++ rest
  pub is_left : left ≡ Some rest
  pub few : length taken ≤ most
