-- What is written to a writer of JSON piece by piece.
use Rattle.std.proofs.Common.{List, ◌++◌, ap, ◌∙◌, append_assoc}
use Rattle.json.specs.Token as token
use Rattle.json.specs.Written.{Written}
use Rattle.ee_desk_texts.specs.Writing.{Added}

-- one piece after another
pub and_then : (old mid new : Written) (a b : List token.Token) → Added old mid a → Added mid new b → Added old new (a ++ b)
and_then old mid new a b first second = (second.0 ∙ first.0, second.1 ∙ ap (λ tokens. tokens ++ b) first.1 ∙ append_assoc old.tokens a b)
