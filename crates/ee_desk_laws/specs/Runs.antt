-- A run over any keeper, in the terms of the laws.
use Rattle.std.specs.Prelude.{◌≡◌, true, List, [], ◌∷◌, ◌++◌, Result, Ok, Err}
use Rattle.ee_desk_model.specs.declared.acts.Request.{Request}
use Rattle.ee_desk_model.specs.declared.refusals.Unserved.{Unserved}
use Rattle.ee_desk_model.specs.declared.replies.Reply.{Reply}
use Rattle.ee_desk_model.specs.Repeats.{Content}
use Rattle.ee_desk_model.specs.Contents.{content_after}
use Rattle.ee_desk_model.specs.Answers.{served, AreAnswers}
use Rattle.ee_desk_laws.specs.Events.{Event, World, Happens}
use Rattle.ee_desk_laws.specs.Events.Event.{Deliver, Unserved as Not_served}
use Rattle.ee_desk_laws.specs.Tellers.{told}

-- the replies among the answers
abbrev pub replies : List (Result Reply Unserved) → List Reply
replies [] = []
replies (Ok reply ∷ answers) = reply ∷ replies answers
replies (Err error ∷ answers) = replies answers

-- a run as events: each request is delivered, or unserved
abbrev pub events_of : List Request → List (Result Reply Unserved) → List Event
events_of [] answers = []
events_of (q ∷ qs) [] = []
events_of (q ∷ qs) (Ok reply ∷ answers) = Deliver q ∷ events_of qs answers
events_of (q ∷ qs) (Err error ∷ answers) = Not_served q ∷ events_of qs answers

-- the replies of a run are those given to its served requests
abbrev pub TellsServed : Type 0
TellsServed = (start : Content) (before qs : List Request) (answers : List (Result Reply Unserved))
    → AreAnswers start before qs answers → replies answers ≡ told start before (served qs answers)

-- a run is a list of events, and leads to the content of its served requests
abbrev pub RunsAsEvents : Type 0
RunsAsEvents = (start : Content) (before qs : List Request) (answers : List (Result Reply Unserved)) (w : World)
    → w.up ≡ true → w.now ≡ content_after start before → AreAnswers start before qs answers
    → (v : World) × Happens w (events_of qs answers) v × (v.now ≡ content_after start (before ++ served qs answers))
