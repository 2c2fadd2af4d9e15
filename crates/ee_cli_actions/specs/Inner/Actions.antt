-- Definitions that private contracts alone cite; specs/Actions.antt has the others.
use Rattle.std.specs.Prelude.{◌≡◌, ℕ, List, Option, Some}

-- the bytes are those that a reader gave, if these are known
abbrev pub AreOf : Option (List ℕ) → List ℕ → Type 0
AreOf known bytes = (source : List ℕ) → known ≡ Some source → bytes ≡ source
