-- Lemmas that the proofs of crates above use: what a disk may leave after each turn, attempts, requests without repeats, and elements of lists.
use Rattle.std.proofs.Common.{List, [], ◌∷◌, ◌++◌, false, true, ◌≡◌, ◌≤◌, ◌⊎◌}
use Rattle.std.specs.List.{AllByRecursion, Contains, count_by}
use Rattle.ee_desk_model.specs.Numbers.{RequestKey, number_of}
use Rattle.ee_desk_model.specs.Repeats.{Content, once}
use Rattle.ee_desk_model.specs.Answers.{is_of}
use Rattle.ee_desk_model.specs.declared.acts.Request.{Request}
use Rattle.ee_desk_laws.specs.Events.{Event, Told, World, begun, Happens, decided, one, unserved}
use Rattle.ee_desk_laws.specs.Events.Event.{Deliver, Lose, Unserved}
use Rattle.ee_desk_laws.specs.Attempts.{Attempt, LeadOn}
use Rattle.ee_desk_laws.specs.Ties.{Leaves}
use Rattle.std.specs.FinMap as finite
use Rattle.ee_desk_laws.proofs.Elements
use Rattle.ee_desk_laws.proofs.Leaving
use Rattle.ee_desk_laws.proofs.Attempts
use Rattle.ee_desk_laws.proofs.Retries

-- ---- what may be left represents a content of the world
-- if no disk may be left but those of before
pub leaves_as_before : {Disk : Type 0} (Stands : Disk → Content → Type 0) (old new : Disk → Type 0) (w : World)
    → ((disk : Disk) → new disk → old disk) → Leaves Stands old w → Leaves Stands new w
leaves_as_before = Leaving.leaves_as_before

-- after a request with a new number, if what may be left represents the content after it
pub leaves_new : {Disk : Type 0} (Stands : Disk → Content → Type 0) (may_leave : Disk → Type 0) (w : World) (q : Request) (told : List Told)
    → finite.contains_key w.now.kept (number_of q) ≡ false → ((disk : Disk) → may_leave disk → Stands disk (one w.now q))
    → Leaves Stands may_leave (decided w q told)
leaves_new = Leaving.leaves_new

-- after a request whose number is kept, if no disk may be left but those of before
pub leaves_kept : {Disk : Type 0} (Stands : Disk → Content → Type 0) (old new : Disk → Type 0) (w : World) (q : Request) (told : List Told)
    → finite.contains_key w.now.kept (number_of q) ≡ true → ((disk : Disk) → new disk → old disk) → Leaves Stands old w
    → Leaves Stands new (decided w q told)
leaves_kept = Leaving.leaves_kept

-- after a request that wasn't served, if what may be left was left before or represents the content after it
pub leaves_unserved : {Disk : Type 0} (Stands : Disk → Content → Type 0) (old new : Disk → Type 0) (w : World) (q : Request)
    → ((disk : Disk) → new disk → old disk ⊎ Stands disk (one w.now q)) → Leaves Stands old w → Leaves Stands new (unserved w q)
leaves_unserved = Leaving.leaves_unserved

-- ---- attempts
-- events, and others after them
pub happens_onward : (earlier later : List Event) (w u v : World) → Happens w earlier u → Happens u later v → Happens w (earlier ++ later) v
happens_onward = Attempts.happens_onward

-- events, and a request that isn't served
pub happens_missed : (start : Content) (events : List Event) (w : World) (q : Request) → Happens (begun start) events w → w.up ≡ true
    → Happens (begun start) (events ++ Unserved q ∷ []) (unserved w q)
happens_missed = Attempts.happens_missed

-- no attempt changes nothing
pub lead_nowhere : (Went : Content → List Event → Type 0) → LeadOn Went [] Went
lead_nowhere = Attempts.lead_nowhere

-- some attempts, and others after them
pub lead_further : (Before Now After : Content → List Event → Type 0) (some others : List Attempt)
    → LeadOn Before some Now → LeadOn Now others After → LeadOn Before (some ++ others) After
lead_further = Attempts.lead_further

-- a request that was served: its reply reached the sender, or was lost
pub lead_by_reply : (Before Now : Content → List Event → Type 0) (q : Request)
    → ((start : Content) (earlier : List Event) → Before start earlier → Now start (earlier ++ Deliver q ∷ []) × Now start (earlier ++ Lose q ∷ []))
    → LeadOn Before (record { request = q; is_served = true } ∷ []) Now
lead_by_reply = Attempts.lead_by_reply

-- a request that wasn't served
pub lead_unserved : (Before Now : Content → List Event → Type 0) (q : Request)
    → ((start : Content) (earlier : List Event) → Before start earlier → Now start (earlier ++ Unserved q ∷ []))
    → LeadOn Before (record { request = q; is_served = false } ∷ []) Now
lead_unserved = Attempts.lead_unserved

-- ---- requests without repeats
-- a request is decided once, if the start didn't keep its number
pub decided_once : (start : Content) (all : List Request) (q : Request) → finite.contains_key start.kept (number_of q) ≡ false → Contains all q
    → count_by (is_of (number_of q)) (once start all) ≡ 1
decided_once = Retries.decided_once

-- a number is decided at most once
pub decided_at_most_once : (start : Content) (all : List Request) (n : RequestKey) → count_by (is_of n) (once start all) ≤ 1
decided_at_most_once = Retries.decided_at_most_once

-- ---- elements
-- an element of a list has what all of them have
pub contained : {A : Type 0} (P : A → Type 0) (xs : List A) (x : A) → AllByRecursion P xs → Contains xs x → P x
contained = Elements.contained

-- the first element is one of the list
pub at_head : {A : Type 0} (x : A) (xs : List A) → Contains (x ∷ xs) x
at_head = Elements.at_head

-- an element of the rest is one of the list
pub in_tail : {A : Type 0} (y : A) (xs : List A) (x : A) → Contains xs x → Contains (y ∷ xs) x
in_tail = Elements.in_tail
