-- Lemmas that the proofs of crates above use.
use Rattle.std.proofs.Common.{ℕ, Bool, List, Option}
use Rattle.ee_desk_model.specs.Repeats.{Content}
use Rattle.ee_desk_laws.specs.Attempts.{Attempt}
use Rattle.ee_counter.specs.declared.connections.Ended.{Ended}
use Rattle.ee_counter.specs.Serving.{Ends}
use Rattle.ee_counter.proofs.Turns

-- how a connection ends, if what is left says more
pub ends_with : (e : Ended) (was : Bool) (bytes : List ℕ) (left old new : Option (List ℕ)) (c : Content) (n : ℕ) (Has After : Content → List Attempt → Type 0)
    → ((d : Content) (attempts : List Attempt) → Has d attempts → After d attempts)
    → Ends e was bytes left old new c n Has → Ends e was bytes left old new c n After
ends_with = Turns.ends_with
