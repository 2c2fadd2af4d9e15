-- Connections that are served in order. `Has` is the relation of contents that the store then has, and of the attempts that led
-- there.
use Rattle.std.specs.Prelude.{◌≡◌, ◌≢◌, ℕ, ◌≤◌, Bool, true, false, List, [], ◌∷◌, ◌++◌, length, Option, Some, None, Result, Ok, Err, ⊤}
use Rattle.std.specs.List.{list_any}
use Rattle.std.specs.Io.KnownBytes.{Appends}
use Rattle.ee_desk_model.specs.Repeats.{Content}
use Rattle.ee_desk_laws.specs.Attempts.{Attempt}
use Rattle.ee_counter.specs.Serving.{Serves}
use Rattle.ee_counter.specs.declared.connections.Ended.{Ended}
use Rattle.ee_cli_actions.specs.Printed.{connection_lines}
use Rattle.ee_cli_actions.specs.declared.faults.Outcome.{Outcome}
use Rattle.ee_cli_actions.specs.declared.faults.Outcome.TheVariants.{Done}
use Rattle.ee_cli_actions.specs.declared.faults.RunFault.{RunFault}
use Rattle.ee_cli_actions.specs.declared.faults.RunFault.TheVariants.{File, Store, Device, NoMemory}
use Rattle.ee_cli_actions.specs.declared.faults.StoreFault.TheVariants.{StoreFailed}

-- The next of the connections that are to come has come; it sends these bytes, and the others are still to come. Nothing is said if
-- it isn't known which connections come, or what they send.
abbrev pub Comes : Option (List (List ℕ)) → Option (List (List ℕ)) → Option (List ℕ) → Type 0
Comes None others sends = ⊤
Comes (Some []) others sends = ⊥
Comes (Some (bytes ∷ rest)) others sends = (others ≡ Some rest) × (sends ≡ Some bytes)

-- a connection that sends these bytes is served: the messages in what is read of them are answered rightly, each at the content
-- after those before it, and this is how it ends
abbrev pub ServesStream : Option (List ℕ) → Content → Ended → (Content → List Attempt → Type 0) → Type 0
ServesStream sends c e Has = (left old new : Option (List ℕ)) × Serves sends left old new c e Has

-- of these connections the first ones are served, each at the content after those before it, and this is how they end
abbrev pub ServesEach : Option (List (List ℕ)) → Option (List (List ℕ)) → Content → List Ended → (Content → List Attempt → Type 0) → Type 0
ServesEach coming others c [] Has = (others ≡ coming) × Has c []
ServesEach coming others c (e ∷ es) Has =
    (next : Option (List (List ℕ))) × (sends : Option (List ℕ)) × Comes coming next sends
    × ((d : Content) × (attempts : List Attempt) × ServesStream sends c e (λ left these. (left ≡ d) × (these ≡ attempts))
    × ServesEach next others d es (λ left more. Has left (attempts ++ more)))

-- the front of the text was written
pub record WritesSome (old new : Option (List ℕ)) (text : List ℕ) : Type 0 where
  pub front : List ℕ
  pub rest : List ℕ
  pub parts : text ≡ front ++ rest
  pub written : Appends old new front

-- on one of these connections an answer said that the store failed
abbrev pub any_failed : List Ended → Bool
any_failed es = list_any (λ e. e.store_failed) es

-- no connection follows one on which an answer said that the store failed
abbrev pub EndsWithFailure : List Ended → Type 0
EndsWithFailure [] = ⊤
EndsWithFailure (e ∷ []) = ⊤
EndsWithFailure (e ∷ f ∷ es) = (e.store_failed ≡ false) × EndsWithFailure (f ∷ es)

-- the lines of these connections were printed, or only a front of them; not all, if the store failed on one
abbrev pub BreaksOff : Option (List ℕ) → Option (List ℕ) → List Ended → Type 0
BreaksOff old new ended = (some : WritesSome old new (connection_lines 0 ended)) × (any_failed ended ≡ true → some.rest ≢ [])

-- A line is printed for each connection: for all of them, if the store failed on none; for fewer, if it failed on the last;
-- or for some, and possibly only the front of the last line, if a device or memory failed. That is told of a store that failed
-- only if its line isn't whole.
abbrev pub PrintsLines : ℕ → Option (List ℕ) → Option (List ℕ) → List Ended → Result Outcome RunFault → Type 0
PrintsLines most old new ended (Ok outcome) =
    (outcome ≡ Done) × (length ended ≡ most) × (any_failed ended ≡ false) × Appends old new (connection_lines 0 ended)
PrintsLines most old new ended (Err (Store cause)) =
    (cause ≡ StoreFailed) × (length ended ≤ most) × (any_failed ended ≡ true) × Appends old new (connection_lines 0 ended)
PrintsLines most old new ended (Err Device) = (length ended ≤ most) × BreaksOff old new ended
PrintsLines most old new ended (Err NoMemory) = (length ended ≤ most) × BreaksOff old new ended
PrintsLines most old new ended (Err (File cause)) = ⊥

-- the connections that came were served in order, and a line was printed for each that says how it ended
pub record ServesAll (coming : Option (List (List ℕ))) (most : ℕ) (old new : Option (List ℕ)) (c : Content) (result : Result Outcome RunFault) (Has : Content → List Attempt → Type 0) : Type 0 where
  pub ended : List Ended
  pub others : Option (List (List ℕ))
  pub each : ServesEach coming others c ended Has
  pub until : EndsWithFailure ended
  pub printed : PrintsLines most old new ended result
