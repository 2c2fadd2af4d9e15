-- What holds of a desk, whatever happens.
use Rattle.std.proofs.Common.{◌≡◌, ◌≢◌, ◌⊎◌, inl, inr, ℕ, ◌+◌, ◌<◌, ◌≤◌, Bool, true, List, ◌∷◌, Option, Some, None}
use Rattle.std.specs.Prelude.{IfSome, ⊤}
use Rattle.std.specs.List.{AllByRecursion, Contains}
use Rattle.ee_desk_model.specs.declared.acts.Act.{Act}
use Rattle.ee_desk_model.specs.declared.refusals.Refusal.TheVariants.{NumberReused}
use Rattle.ee_desk_model.specs.declared.replies.Reply.{Reply}
use Rattle.ee_desk_model.specs.declared.replies.Reply.TheVariants.{Refused}
use Rattle.ee_desk_model.proofs.Lemmas.Maps.{all_weaker}
use Rattle.ee_desk_laws.specs.Events.{Told}
use Rattle.ee_desk_laws.proofs.Lemmas.{in_tail}
use Rattle.ee_client.specs.declared.journals.Open.{Open}
use Rattle.ee_client.specs.declared.journals.Journal.{Journal}
use Rattle.ee_client.specs.declared.events.Answer.{Answer}
use Rattle.ee_client.specs.declared.events.Answer.TheVariants as answer
use Rattle.ee_client.specs.declared.events.Outcome.{Outcome}
use Rattle.ee_client.specs.declared.events.Outcome.TheVariants.{Done, Refused as Was_refused, NotDone, GivenUp}
use Rattle.ee_client.specs.declared.machines.Phase.{Phase}
use Rattle.ee_client.specs.declared.machines.Phase.TheVariants.{Rest, Writing, Sent, Told as Was_told}
use Rattle.ee_client.specs.Desks.{Sending, Shown, Desk, answer_in, request_for}

-- what happened at a desk: the replies that the counter gave, the names of acts, what was sent, and what was shown
pub record Past : Type 0 where
  pub told : List Told
  pub asked : List ℕ
  pub sent : List Sending
  pub shown : List Shown

-- NumberReused was told of this number
abbrev pub WasReused : List Told → ℕ → ℕ → Type 0
WasReused told d n = (t : Told) × Contains told t × (t.request.desk ≡ d) × (t.request.number ≡ n) × (t.reply ≡ Refused NumberReused)

-- it has this number, or one of which NumberReused was told
abbrev pub IsAtOr : List Told → ℕ → ℕ → Sending → Type 0
IsAtOr told d n x = (x.request.number ≡ n) ⊎ WasReused told d x.request.number

-- an act isn't said to be not done
abbrev pub IsUnsaid : List Shown → ℕ → Type 0
IsUnsaid shown act = AllByRecursion (λ s. s.outcome ≡ NotDone → s.act ≢ act) shown

-- an act that was asked for, was never sent, and isn't said to be not done
pub record IsWaiting (p : Past) (act : ℕ) : Type 0 where
  pub named : Contains p.asked act
  pub unsent : AllByRecursion (λ x. x.act ≢ act) p.sent
  pub unsaid : IsUnsaid p.shown act

-- the open request of a journal
pub record OpenFits (first d : ℕ) (p : Past) (next : ℕ) (o : Open) : Type 0 where
  pub named : Contains p.asked o.act
  pub low : first ≤ o.number
  pub counted : next ≡ o.number + 1
  pub steps : 0 < o.step
  -- what was sent under its number was sent for it
  pub own : AllByRecursion (λ x. x.request.number ≡ o.number → x.act ≡ o.act) p.sent
  -- what was sent for it was sent under its number, or under one of which NumberReused was told
  pub last : AllByRecursion (λ x. x.act ≡ o.act → IsAtOr p.told d o.number x) p.sent
  pub unsent : o.sent ≡ 0 → AllByRecursion (λ x. x.request.number ≢ o.number) p.sent
  pub unsaid : IsUnsaid p.shown o.act
  pub follower : IfSome o.follower (λ f. IsWaiting p f × (f ≢ o.act))

abbrev pub RequestFits : ℕ → ℕ → Past → ℕ → Option Open → Type 0
RequestFits first d p next None = ⊤
RequestFits first d p next (Some o) = OpenFits first d p next o

pub record Fits (first d : ℕ) (p : Past) (j : Journal) : Type 0 where
  pub low : first ≤ j.next
  pub below : AllByRecursion (λ x. x.request.number < j.next) p.sent
  pub request : RequestFits first d p j.next j.request

-- if the open request ends as not done, NumberReused was told of each number under which it may have reached the counter
abbrev pub EndsRight : ℕ → Past → Option Outcome → Option Open → Type 0
EndsRight d p (Some NotDone) (Some o) = AllByRecursion (λ x. x.act ≡ o.act → WasReused p.told d x.request.number) p.sent
EndsRight d p (Some NotDone) None = ⊤
EndsRight d p (Some Done) o = ⊤
EndsRight d p (Some Was_refused) o = ⊤
EndsRight d p (Some GivenUp) o = ⊤
EndsRight d p None o = ⊤

-- a request that was counted once never reached the counter under its number
abbrev pub IsFirst : Past → Option Open → Type 0
IsFirst p None = ⊤
IsFirst p (Some o) = o.sent ≡ 1 → AllByRecursion (λ x. x.request.number ≢ o.number) p.sent

abbrev pub PhaseFits : ℕ → ℕ → Past → Bool → Option Open → Phase → Type 0
PhaseFits first d p stopped o Rest = ⊤
PhaseFits first d p stopped o (Writing j told) = Fits first d p j × EndsRight d p told o × IsFirst p j.request
PhaseFits first d p stopped o Sent = stopped ≡ true → IsFirst p o
PhaseFits first d p stopped o (Was_told outcome) = EndsRight d p (Some outcome) o

-- what is shown has its reason
pub record HasReply (d : ℕ) (p : Past) (s : Shown) (kind : Answer) : Type 0 where
  pub reply : Reply
  pub is : s.reply ≡ Some reply
  pub own : reply ≢ Refused NumberReused
  pub kind_is : answer_in reply ≡ kind
  pub told : (t : Told) × Contains p.told t × (t.request.desk ≡ d) × (t.request.number ≡ s.number) × (t.reply ≡ reply)
  pub sent : (x : Sending) × Contains p.sent x × (x.request.number ≡ s.number) × (x.act ≡ s.act)

abbrev pub HasReason : ℕ → Past → Shown → Outcome → Type 0
HasReason d p s Done = HasReply d p s answer.Done
HasReason d p s Was_refused = HasReply d p s answer.Refused
HasReason d p s NotDone = AllByRecursion (λ x. x.act ≡ s.act → WasReused p.told d x.request.number) p.sent
HasReason d p s GivenUp = ⊤

pub record History (acts : ℕ → ℕ → Act) (first d : ℕ) (p : Past) : Type 0 where
  pub named : AllByRecursion (λ x. Contains p.asked x.act) p.sent
  pub requests : AllByRecursion (λ x. x.request ≡ request_for acts d x.request.number x.act) p.sent
  pub low : AllByRecursion (λ x. first ≤ x.request.number) p.sent
  -- a number is used for one act
  pub one : AllByRecursion (λ x. AllByRecursion (λ y. x.request.number ≡ y.request.number → x.act ≡ y.act) p.sent) p.sent
  -- an act is under one number, but for those of which NumberReused was told
  pub fate : (act : ℕ) → (n : ℕ) × AllByRecursion (λ x. x.act ≡ act → IsAtOr p.told d n x) p.sent
  pub shown_named : AllByRecursion (λ s. Contains p.asked s.act) p.shown
  pub shown : AllByRecursion (λ s. HasReason d p s s.outcome) p.shown

abbrev pub past_of : List Told → Desk → Past
past_of told desk = record { told = told; asked = desk.asked; sent = desk.sent; shown = desk.shown }

pub record Keeps (acts : ℕ → ℕ → Act) (first d : ℕ) (told : List Told) (desk : Desk) : Type 0 where
  pub history : History acts first d (past_of told desk)
  pub journal : Fits first d (past_of told desk) desk.machine.journal
  pub phase : PhaseFits first d (past_of told desk) desk.is_stopped desk.machine.journal.request desk.machine.phase

-- ---- a reply more
reused_more : (told : List Told) (t : Told) (d n : ℕ) → WasReused told d n → WasReused (t ∷ told) d n
reused_more told t d n (u, c, desk, number, says) = (u, in_tail t told u c, desk, number, says)

at_or_more : (told : List Told) (t : Told) (d n : ℕ) (x : Sending) → IsAtOr told d n x → IsAtOr (t ∷ told) d n x
at_or_more told t d n x (inl is) = inl is
at_or_more told t d n x (inr h) = inr (reused_more told t d x.request.number h)

abbrev with_told : Past → Told → Past
with_told p t = record p { told = t ∷ p.told }

module _ (first d : ℕ) (p : Past) (t : Told) where
  open_told : (next : ℕ) (o : Open) → OpenFits first d p next o → OpenFits first d (with_told p t) next o
  open_told next o h = record {
    named = h.named;
    low = h.low;
    counted = h.counted;
    steps = h.steps;
    own = h.own;
    last = all_weaker (λ x. x.act ≡ o.act → IsAtOr p.told d o.number x) (λ x. x.act ≡ o.act → IsAtOr (t ∷ p.told) d o.number x) (λ x f is. at_or_more p.told t d o.number x (f is)) p.sent h.last;
    unsent = h.unsent;
    unsaid = h.unsaid;
    follower = of_follower o.follower h.follower;
  }
    where
      of_follower : (f : Option ℕ) → IfSome f (λ g. IsWaiting p g × (g ≢ o.act)) → IfSome f (λ g. IsWaiting (with_told p t) g × (g ≢ o.act))
      of_follower None h = h
      of_follower (Some f) (w, ne) = (record { named = w.named; unsent = w.unsent; unsaid = w.unsaid }, ne)

  fits_told : (j : Journal) → Fits first d p j → Fits first d (with_told p t) j
  fits_told j h = record { low = h.low; below = h.below; request = of_request j.request h.request }
    where
      of_request : (o : Option Open) → RequestFits first d p j.next o → RequestFits first d (with_told p t) j.next o
      of_request None h = tt
      of_request (Some o) h = open_told j.next o h

  reused_all : (act : ℕ) → AllByRecursion (λ x. x.act ≡ act → WasReused p.told d x.request.number) p.sent
      → AllByRecursion (λ x. x.act ≡ act → WasReused (t ∷ p.told) d x.request.number) p.sent
  reused_all act h = all_weaker (λ x. x.act ≡ act → WasReused p.told d x.request.number) (λ x. x.act ≡ act → WasReused (t ∷ p.told) d x.request.number) (λ x f is. reused_more p.told t d x.request.number (f is)) p.sent h

  ends_told : (outcome : Option Outcome) (o : Option Open) → EndsRight d p outcome o → EndsRight d (with_told p t) outcome o
  ends_told (Some NotDone) (Some o) h = reused_all o.act h
  ends_told (Some NotDone) None h = tt
  ends_told (Some Done) o h = tt
  ends_told (Some Was_refused) o h = tt
  ends_told (Some GivenUp) o h = tt
  ends_told None o h = tt

  first_told : (o : Option Open) → IsFirst p o → IsFirst (with_told p t) o
  first_told None h = tt
  first_told (Some o) h = h

  phase_told : (stopped : Bool) (o : Option Open) (phase : Phase) → PhaseFits first d p stopped o phase → PhaseFits first d (with_told p t) stopped o phase
  phase_told stopped o Rest h = tt
  phase_told stopped o (Writing j told) h = (fits_told j h.0, ends_told told o h.1, first_told j.request h.2)
  phase_told stopped o Sent h = λ is. first_told o (h is)
  phase_told stopped o (Was_told outcome) h = ends_told (Some outcome) o h

  reply_told : (s : Shown) (kind : Answer) → HasReply d p s kind → HasReply d (with_told p t) s kind
  reply_told s kind h = record {
    reply = h.reply;
    is = h.is;
    own = h.own;
    kind_is = h.kind_is;
    told = (h.told.0, in_tail t p.told h.told.0 h.told.1, h.told.2, h.told.3, h.told.4);
    sent = h.sent;
  }

  reason_told : (s : Shown) (outcome : Outcome) → HasReason d p s outcome → HasReason d (with_told p t) s outcome
  reason_told s Done h = reply_told s answer.Done h
  reason_told s Was_refused h = reply_told s answer.Refused h
  reason_told s NotDone h = reused_all s.act h
  reason_told s GivenUp h = tt

  history_told : (acts : ℕ → ℕ → Act) → History acts first d p → History acts first d (with_told p t)
  history_told acts h = record {
    named = h.named;
    requests = h.requests;
    low = h.low;
    one = h.one;
    fate = λ act. let (n, f) = h.fate act in
        (n, all_weaker (λ x. x.act ≡ act → IsAtOr p.told d n x) (λ x. x.act ≡ act → IsAtOr (t ∷ p.told) d n x) (λ x g is. at_or_more p.told t d n x (g is)) p.sent f);
    shown_named = h.shown_named;
    shown = all_weaker (λ s. HasReason d p s s.outcome) (λ s. HasReason d (with_told p t) s s.outcome) (λ s r. reason_told s s.outcome r) p.shown h.shown;
  }

pub keeps_told : (acts : ℕ → ℕ → Act) (first d : ℕ) (told : List Told) (t : Told) (desk : Desk) → Keeps acts first d told desk → Keeps acts first d (t ∷ told) desk
keeps_told acts first d told t desk h = record {
  history = history_told first d (past_of told desk) t acts h.history;
  journal = fits_told first d (past_of told desk) t desk.machine.journal h.journal;
  phase = phase_told first d (past_of told desk) t desk.is_stopped desk.machine.journal.request desk.machine.phase h.phase;
}
