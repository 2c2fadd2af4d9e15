-- What is added to the tokens of a JSON writer.
use Rattle.std.specs.Prelude.{◌≡◌, ℕ, List, ◌∷◌, ◌++◌, Result, OnOk}
use Rattle.json.specs.Token as token
use Rattle.json.specs.Tree.{json_tokens}
use Rattle.json.specs.Written.{Written}
use Rattle.serde_json.specs.Data.{Data}
use Rattle.serde_json.specs.Written.{outline}

-- these tokens were added
abbrev pub Added : Written → Written → List token.Token → Type 0
Added old new added = (new.before ≡ old.before) × (new.tokens ≡ old.tokens ++ added)

-- these tokens are added, unless memory was refused
abbrev pub Adds : {E : Type 0} → Result (Unit {0}) E → Written → Written → List token.Token → Type 0
Adds result old new added = OnOk result (Added old new added)

-- a member of an object is added
abbrev pub AddsMember : {E : Type 0} → Result (Unit {0}) E → Written → Written → List ℕ → Data → Type 0
AddsMember result old new name d = Adds result old new (token.key name ∷ json_tokens (outline d))
