-- The part of a text that a writer has taken (this project's rule: a failed write is not repeated).
use Rattle.std.specs.Prelude.{◌≡◌, ◌≢◌, ℕ, List, [], ◌++◌, Option, Bool, true, false, Result, Ok, Err, ⊤}
use Rattle.std.specs.Io.KnownBytes.{Appends}

-- a writer took the front of the text: all of it if it is done, and otherwise not all of it
pub record WritesFront (old new : Option (List ℕ)) (text : List ℕ) (done : Bool) : Type 0 where
  pub front : List ℕ
  pub rest : List ℕ
  pub parts : text ≡ front ++ rest
  pub written : Appends old new front
  pub whole : done ≡ true → front ≡ text
  pub cut : done ≡ false → rest ≢ []

-- a write took no byte, or failed
abbrev pub TakesNone : {E : Type 0} → Result ℕ E → Type 0
TakesNone (Ok n) = n ≡ 0
TakesNone (Err e) = ⊤
