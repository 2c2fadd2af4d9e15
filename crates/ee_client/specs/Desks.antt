-- Any number of desks with a client each, and the counter: what happens to them, in turn (this project's rule).
use Rattle.std.specs.Prelude.{◌≡◌, ℕ, Bool, true, false, not, ◌==◌, List, [], ◌∷◌, ◌++◌, Contains, Option, Some, None, IfSome, ⊤, if◌then◌else◌}
use Rattle.std.specs.List.{AllByRecursion}
use Rattle.ee_desk_model.specs.declared.acts.Act.{Act}
use Rattle.ee_desk_model.specs.declared.acts.Request.{Request}
use Rattle.ee_desk_model.specs.declared.replies.Reply.{Reply}
use Rattle.ee_desk_model.specs.declared.replies.Reply.TheVariants.{Refused}
use Rattle.ee_desk_model.specs.Codes.{code_of}
use Rattle.ee_desk_model.specs.Repeats.{Content}
use Rattle.ee_desk_laws.specs.Events.{Event as CounterEvent, Told, World, Leads, begun as counter_begun}
use Rattle.ee_desk_laws.specs.Stops.{request_of}
use Rattle.ee_client.specs.declared.events.Answer.{Answer}
use Rattle.ee_client.specs.declared.events.Answer.TheVariants as answer
use Rattle.ee_client.specs.declared.events.Outcome.{Outcome}
use Rattle.ee_client.specs.declared.events.Event.{Event}
use Rattle.ee_client.specs.declared.events.Event.TheVariants.{Submit, Answered}
use Rattle.ee_client.specs.declared.events.Action.{Action}
use Rattle.ee_client.specs.declared.events.Action.TheVariants.{Send, Show}
use Rattle.ee_client.specs.declared.machines.Phase.TheVariants.{Rest}
use Rattle.ee_client.specs.declared.machines.Machine.{Machine}
use Rattle.ee_client.specs.declared.machines.Turn.{Turn}
use Rattle.ee_client.specs.Turns.{turn}

-- a request that was sent for an act, and may reach the counter at any time, any number of times, or never
pub record Sending : Type 0 where
  pub act : ℕ
  pub request : Request

-- what a client showed of an act, under the number that it then had; a reply with that reply
pub record Shown : Type 0 where
  pub act : ℕ
  pub number : ℕ
  pub outcome : Outcome
  pub reply : Option Reply

-- a desk: its client, and what it did; each the latest first
pub record Desk : Type 0 where
  pub machine : Machine
  pub asked : List ℕ  -- the names of the acts that its teller submitted
  pub sent : List Sending
  pub is_stopped : Bool  -- the last request that was sent was stopped on its way: it never reaches the counter
  pub shown : List Shown

pub record Bank : Type 0 where
  pub counter : World
  pub desk : ℕ → Desk

pub data Happening : Type 0 where
  At_counter : (event : CounterEvent) → Happening
  -- an event of a desk's client; if the client then sends, `passes` says whether that request may reach the counter
  At_desk : (desk : ℕ) (event : Event) (passes : Bool) → Happening
  -- a reply of the counter reaches the client that it is for: soon, late, or once more
  Reply_at : (desk : ℕ) (told : Told) → Happening

-- what a reply is to a client
abbrev pub answer_in : Reply → Answer
answer_in (Refused refusal) = if code_of refusal == 10 then answer.Reused else answer.Refused
answer_in reply = answer.Done

-- the names of a submitted act and of the one that follows it
abbrev pub names_of : ℕ → Option ℕ → List ℕ
names_of act None = act ∷ []
names_of act (Some follower) = act ∷ follower ∷ []

abbrev pub IsOther : List ℕ → ℕ → Type 0
IsOther names name = AllByRecursion (λ other. (other == name) ≡ false) names

-- each act has a name of its own
abbrev pub AreNew : List ℕ → ℕ → Option ℕ → Type 0
AreNew asked act None = IsOther asked act
AreNew asked act (Some follower) = IsOther asked act × IsOther (act ∷ asked) follower

-- a fault answers a request that was stopped, and a reply comes from the counter
abbrev pub CanAnswer : Desk → Answer → Type 0
CanAnswer desk answer.Fault = desk.is_stopped ≡ true
CanAnswer desk answer.Nothing = ⊤
CanAnswer desk answer.Done = ⊥
CanAnswer desk answer.Refused = ⊥
CanAnswer desk answer.Reused = ⊥

abbrev pub CanHappenAt : Desk → Event → Type 0
CanHappenAt desk (Submit act follower) = AreNew desk.asked act follower
CanHappenAt desk (Answered number answer) = CanAnswer desk answer
CanHappenAt desk event = ⊤

abbrev pub asked_with : Event → List ℕ → List ℕ
asked_with (Submit act follower) asked = names_of act follower ++ asked
asked_with event asked = asked

module _ (acts : ℕ → ℕ → Act) where
  -- the request of an act: the same one each time under a number
  abbrev pub request_for : ℕ → ℕ → ℕ → Request
  request_for desk number act = record { desk = desk; number = number; act = acts desk act }

  -- a desk after its client did something
  abbrev pub after_action : ℕ → Desk → Bool → Option Reply → Action → Desk
  after_action d desk passes reply (Send number act) = record desk {
    sent = if passes then record { act = act; request = request_for d number act } ∷ desk.sent else desk.sent;
    is_stopped = not passes;
  }
  after_action d desk passes reply (Show number act outcome) =
      record desk { shown = record { act = act; number = number; outcome = outcome; reply = reply } ∷ desk.shown }
  after_action d desk passes reply action = desk

  abbrev pub after_turn : ℕ → Desk → Bool → Option Reply → Turn → Desk
  after_turn d desk passes reply t = after_action d (record desk { machine = t.machine }) passes reply t.action

  abbrev pub moved : ℕ → Desk → Event → Bool → Option Reply → Desk
  moved d desk event passes reply =
      after_turn d (record desk { asked = asked_with event desk.asked }) passes reply (turn desk.machine event)

  abbrev pub with_desk : Bank → ℕ → Desk → Bank
  with_desk bank d desk = record bank { desk = λ e. if e == d then desk else bank.desk e }

  -- a desk sent it
  abbrev pub WasSent : Bank → Request → Type 0
  WasSent bank q = (x : Sending) × Contains (bank.desk q.desk).sent x × (x.request ≡ q)

  -- what a happening may lead to: the counter meets only what desks sent, and a reply that a desk gets is the counter's
  abbrev pub Goes : Bank → Happening → Bank → Type 0
  Goes bank (At_counter event) after =
      (counter : World) × IfSome (request_of event) (WasSent bank) × Leads bank.counter event counter × (after ≡ record bank { counter = counter })
  Goes bank (At_desk d event passes) after =
      CanHappenAt (bank.desk d) event × (after ≡ with_desk bank d (moved d (bank.desk d) event passes None))
  Goes bank (Reply_at d told) after =
      Contains bank.counter.told told × (told.request.desk ≡ d)
      × (after ≡ with_desk bank d (moved d (bank.desk d) (Answered told.request.number (answer_in told.reply)) true (Some told.reply)))

  abbrev pub GoOnward : Bank → List Happening → Bank → Type 0
  GoOnward bank [] after = after ≡ bank
  GoOnward bank (happening ∷ happenings) after = (next : Bank) × Goes bank happening next × GoOnward next happenings after

-- the counter's events among them
abbrev pub counter_events : List Happening → List CounterEvent
counter_events [] = []
counter_events (At_counter event ∷ happenings) = event ∷ counter_events happenings
counter_events (At_desk d event passes ∷ happenings) = counter_events happenings
counter_events (Reply_at d told ∷ happenings) = counter_events happenings

-- a desk with a new journal, whose first number is this
abbrev pub new_desk : ℕ → ℕ → Desk
new_desk most first = record {
  machine = record { most = most; journal = record { next = first; request = None }; phase = Rest };
  asked = [];
  sent = [];
  is_stopped = false;
  shown = [];
}

-- a counter with this content, and desks whose journals begin at these numbers
abbrev pub opened : Content → ℕ → (ℕ → ℕ) → Bank
opened start most first = record { counter = counter_begun start; desk = λ d. new_desk most (first d) }
