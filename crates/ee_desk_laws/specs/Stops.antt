-- What stops and retries leave of the requests that were sent (this project's rule).
use Rattle.std.specs.Prelude.{◌≡◌, ◌⊎◌, Bool, true, false, List, [], ◌∷◌, ◌++◌, map, count_by, Contains, Option, Some, None, ⊤}
use Rattle.std.specs.List.{AllByRecursion, filter_map}
use Rattle.std.specs.FinMap as finite
use Rattle.ee_desk_model.specs.declared.acts.Request.{Request}
use Rattle.ee_desk_model.specs.Numbers.{number_of}
use Rattle.ee_desk_model.specs.Repeats.{Content, once}
use Rattle.ee_desk_model.specs.Contents.{content_after}
use Rattle.ee_desk_model.specs.Answers.{answer, is_of}
use Rattle.ee_desk_laws.specs.Events.{Event, Told, World, begun, Happens}
use Rattle.ee_desk_laws.specs.Events.Event.{Deliver, Lose, Unserved, Stop_within, Stop_between, Reopen}

abbrev pub request_of : Event → Option Request
request_of (Deliver q) = Some q
request_of (Lose q) = Some q
request_of (Unserved q) = Some q
request_of (Stop_within q) = Some q
request_of Stop_between = None
request_of Reopen = None

abbrev pub told_request : Event → Option Request
told_request (Deliver q) = Some q
told_request (Lose q) = None
told_request (Unserved q) = None
told_request (Stop_within q) = None
told_request Stop_between = None
told_request Reopen = None

-- the requests that the events name
abbrev pub sent : List Event → List Request
sent events = filter_map request_of events

-- the requests whose reply reached the sender
abbrev pub acknowledged : List Event → List Request
acknowledged events = filter_map told_request events

abbrev pub BeginsWith : Request → (List Request → Type 0) → List Request → Type 0
BeginsWith q Rest done = (rest : List Request) × (done ≡ q ∷ rest) × Rest rest

-- the requests of the events in order; some of those unserved or stopped may be left out
abbrev pub AreDone : List Event → List Request → Type 0
AreDone [] done = done ≡ []
AreDone (Deliver q ∷ events) done = BeginsWith q (AreDone events) done
AreDone (Lose q ∷ events) done = BeginsWith q (AreDone events) done
AreDone (Unserved q ∷ events) done = BeginsWith q (AreDone events) done ⊎ AreDone events done
AreDone (Stop_within q ∷ events) done = BeginsWith q (AreDone events) done ⊎ AreDone events done
AreDone (Stop_between ∷ events) done = AreDone events done
AreDone (Reopen ∷ events) done = AreDone events done

-- each reply that reached its sender is the answer after these requests
abbrev pub StillTold : Content → List Request → List Told → Type 0
StillTold start done told = AllByRecursion (λ t. t.reply ≡ answer start done t.request) told

-- the content is that of the start followed by requests that the events name
abbrev pub IsOfEvents : Content → List Event → List Told → Content → Type 0
IsOfEvents start events told content =
    (done : List Request) × AreDone events done × (content ≡ content_after start done) × StillTold start done told

pub record Survives (start : Content) (events : List Event) (w : World) : Type 0 where
  pub content : IsOfEvents start events w.told w.now
  pub others : AllByRecursion (IsOfEvents start events w.told) w.may

-- every sent request that the start doesn't keep occurs once
abbrev pub StandOnce : Content → List Request → List Request → Type 0
StandOnce start all asked =
    AllByRecursion (λ q. finite.contains_key start.kept (number_of q) ≡ false → count_by (is_of (number_of q)) (once start all) ≡ 1) asked

-- what holds after every request is delivered again
pub record Settles (start : Content) (events : List Event) (again : List Request) (w : World) (done : List Request) : Type 0 where
  pub requests : AreDone events done
  pub content : w.now ≡ content_after start (done ++ again)
  pub once : StandOnce start (done ++ again) (sent events)
  pub told : StillTold start (done ++ again) w.told

-- whatever happens, the content is that of the start followed by requests that were sent
abbrev pub SurvivesStops : Type 0
SurvivesStops = (start : Content) (events : List Event) (w : World) → Happens (begun start) events w → Survives start events w

-- what is acknowledged is done, and what is done was sent
abbrev pub HoldsAcknowledged : Type 0
HoldsAcknowledged = (events : List Event) (done : List Request) → AreDone events done
    → AllByRecursion (Contains done) (acknowledged events) × AllByRecursion (Contains (sent events)) done

-- once each sent request is delivered again, in any order, each has taken effect once
abbrev pub SettlesByRetries : Type 0
SettlesByRetries = (start : Content) (events : List Event) (again : List Request) (w : World)
    → AllByRecursion (Contains again) (sent events)
    → Happens (begun start) (events ++ map Deliver again) w
    → (done : List Request) × Settles start events again w done

-- a keeper, up or down at first, can meet these events: nothing is delivered between a stop and a reopening
abbrev pub CanHappen : Bool → List Event → Type 0
CanHappen up [] = ⊤
CanHappen up (Deliver q ∷ events) = (up ≡ true) × CanHappen true events
CanHappen up (Lose q ∷ events) = (up ≡ true) × CanHappen true events
CanHappen up (Unserved q ∷ events) = (up ≡ true) × CanHappen true events
CanHappen up (Stop_within q ∷ events) = (up ≡ true) × CanHappen false events
CanHappen up (Stop_between ∷ events) = CanHappen false events
CanHappen up (Reopen ∷ events) = (up ≡ false) × CanHappen true events

-- each such list of events leads to some world
abbrev pub LeadsOn : Type 0
LeadsOn = (start : Content) (events : List Event) → CanHappen true events → (w : World) × Happens (begun start) events w
