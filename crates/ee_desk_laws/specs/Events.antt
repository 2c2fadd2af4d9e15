-- Events that may happen to requests, and what a crash may leave of a content (this project's rule).
use Rattle.std.specs.Prelude.{◌≡◌, Bool, true, false, List, [], ◌∷◌, Contains, if◌then◌else◌}
use Rattle.std.specs.FinMap as finite
use Rattle.ee_desk_model.specs.declared.acts.Request.{Request}
use Rattle.ee_desk_model.specs.declared.replies.Reply.{Reply}
use Rattle.ee_desk_model.specs.Numbers.{number_of}
use Rattle.ee_desk_model.specs.Repeats.{Content}
use Rattle.ee_desk_model.specs.Contents.{content_after}
use Rattle.ee_desk_model.specs.Answers.{answer}

pub data Event : Type 0 where
  Deliver : (q : Request) → Event  -- decided, and the reply reaches the sender
  Lose : (q : Request) → Event  -- decided, and the reply is lost
  Unserved : (q : Request) → Event  -- not decided
  Stop_within : (q : Request) → Event  -- the keeper stops while it decides q
  Stop_between : Event
  Reopen : Event

-- a reply that reached its sender
pub record Told : Type 0 where
  pub request : Request
  pub reply : Reply

pub record World : Type 0 where
  pub now : Content
  pub may : List Content  -- what a crash may leave
  pub told : List Told  -- the latest first
  pub up : Bool  -- whether the keeper takes requests

abbrev pub begun : Content → World
begun start = record { now = start; may = start ∷ []; told = []; up = true }

-- the content after one more request
abbrev pub one : Content → Request → Content
one content q = content_after content (q ∷ [])

-- what a crash may leave once a request is decided: only the new content, or for a kept number what it could leave before
abbrev pub may_after : World → Request → List Content
may_after w q = if finite.contains_key w.now.kept (number_of q) then w.may else one w.now q ∷ []

abbrev pub decided : World → Request → List Told → World
decided w q told = record { now = one w.now q; may = may_after w q; told = told; up = true }

-- a request that isn't decided may still take effect if a crash comes
abbrev pub unserved : World → Request → World
unserved w q = record w { may = one w.now q ∷ w.may }

abbrev pub stopped : World → Content → World
stopped w left = record { now = left; may = left ∷ []; told = w.told; up = false }

-- the worlds that an event may lead to
abbrev pub Leads : World → Event → World → Type 0
Leads w (Deliver q) v = (w.up ≡ true) × (v ≡ decided w q (record { request = q; reply = answer w.now [] q } ∷ w.told))
Leads w (Lose q) v = (w.up ≡ true) × (v ≡ decided w q w.told)
Leads w (Unserved q) v = (w.up ≡ true) × (v ≡ unserved w q)
Leads w (Stop_within q) v = (w.up ≡ true) × (left : Content) × Contains (one w.now q ∷ w.may) left × (v ≡ stopped w left)
Leads w Stop_between v = (left : Content) × Contains w.may left × (v ≡ stopped w left)
Leads w Reopen v = (w.up ≡ false) × (v ≡ record w { up = true })

-- the worlds that a list of events may lead to
abbrev pub Happens : World → List Event → World → Type 0
Happens w [] v = v ≡ w
Happens w (event ∷ events) v = (u : World) × Leads w event u × Happens u events v
