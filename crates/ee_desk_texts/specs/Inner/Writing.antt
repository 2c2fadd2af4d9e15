-- Definitions that private contracts alone cite; specs/Writing.antt has the others.
use Rattle.std.specs.Prelude.{Result}
use Rattle.json.specs.Tree.{json_tokens}
use Rattle.json.specs.Written.{Written}
use Rattle.serde_json.specs.Data.{Data}
use Rattle.serde_json.specs.Written.{outline}
use Rattle.ee_desk_texts.specs.Writing.{Adds}

-- a JSON value is added
abbrev pub AddsData : {E : Type 0} → Result (Unit {0}) E → Written → Written → Data → Type 0
AddsData result old new d = Adds result old new (json_tokens (outline d))
