-- Requests that were put to a keeper, and the events that they were (this project's rule).
use Rattle.std.specs.Prelude.{◌≡◌, ◌⊎◌, Bool, true, false, List, [], ◌∷◌, ◌++◌}
use Rattle.ee_desk_model.specs.declared.acts.Request.{Request}
use Rattle.ee_desk_model.specs.Repeats.{Content}
use Rattle.ee_desk_laws.specs.Events.{Event}
use Rattle.ee_desk_laws.specs.Events.Event.{Deliver, Lose, Unserved}

pub record Attempt : Type 0 where
  pub request : Request
  pub is_served : Bool

-- the reply to a served request reached its sender, or was lost
abbrev pub IsEventOf : Request → Bool → Event → Type 0
IsEventOf q true event = (event ≡ Deliver q) ⊎ (event ≡ Lose q)
IsEventOf q false event = event ≡ Unserved q

-- the events that these attempts were, in order
abbrev pub AreEventsOf : List Attempt → List Event → Type 0
AreEventsOf [] events = events ≡ []
AreEventsOf (a ∷ attempts) events =
    (event : Event) × (rest : List Event) × (events ≡ event ∷ rest) × IsEventOf a.request a.is_served event × AreEventsOf attempts rest

-- if events led from a content to what was before, they lead to what is now with those of these attempts after them
abbrev pub LeadOn : (Content → List Event → Type 0) → List Attempt → (Content → List Event → Type 0) → Type 0
LeadOn Before attempts Now = (start : Content) (earlier more : List Event) → Before start earlier → AreEventsOf attempts more → Now start (earlier ++ more)
