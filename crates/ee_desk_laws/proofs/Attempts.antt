-- Attempts, one after the other.
use Rattle.std.proofs.Common.{◌≡◌, ◌∙◌, inl, inr, true, false, List, [], ◌∷◌, ◌++◌, refl, sym, ap, subst, append_assoc, append-nil}
use Rattle.ee_desk_model.specs.declared.acts.Request.{Request}
use Rattle.ee_desk_model.specs.Repeats.{Content}
use Rattle.ee_desk_laws.specs.Events.{Event, World, begun, unserved, Happens}
use Rattle.ee_desk_laws.specs.Events.Event.{Deliver, Lose, Unserved}
use Rattle.ee_desk_laws.specs.Attempts.{Attempt, AreEventsOf, LeadOn}

pub happens_onward : (earlier later : List Event) (w u v : World) → Happens w earlier u → Happens u later v → Happens w (earlier ++ later) v
happens_onward [] later w u v same rest = subst (λ x. Happens x later v) same rest
happens_onward (event ∷ earlier) later w u v (x, leads, on) rest = (x, leads, happens_onward earlier later x u v on rest)

-- a request that isn't served
pub happens_missed : (start : Content) (events : List Event) (w : World) (q : Request) → Happens (begun start) events w → w.up ≡ true
    → Happens (begun start) (events ++ Unserved q ∷ []) (unserved w q)
happens_missed start events w q happened up =
    happens_onward events (Unserved q ∷ []) (begun start) w (unserved w q) happened (unserved w q, (up, refl), refl)

pub lead_nowhere : (Went : Content → List Event → Type 0) → LeadOn Went [] Went
lead_nowhere Went start earlier more went none = subst (λ l. Went start (earlier ++ l)) (sym none) (subst (Went start) (sym (append-nil earlier)) went)

-- the events of some attempts, and those of the others
parted : (some others : List Attempt) (events : List Event) → AreEventsOf (some ++ others) events
    → (first last : List Event) × (events ≡ first ++ last) × AreEventsOf some first × AreEventsOf others last
parted [] others events are = ([], events, refl, refl, are)
parted (a ∷ some) others events (event, rest, is, of, are) =
    let (first, last, same, firsts, lasts) = parted some others rest are in
    (event ∷ first, last, is ∙ ap (λ l. event ∷ l) same, (event, first, refl, of, firsts), lasts)

pub lead_further : (Before Now After : Content → List Event → Type 0) (some others : List Attempt)
    → LeadOn Before some Now → LeadOn Now others After → LeadOn Before (some ++ others) After
lead_further Before Now After some others first then start earlier more went are =
    let (these, those, is, firsts, lasts) = parted some others more are in
    subst (After start) (append_assoc earlier these those ∙ ap (λ l. earlier ++ l) (sym is))
    (then start (earlier ++ these) those (first start earlier these went firsts) lasts)

-- one request that was served
pub lead_by_reply : (Before Now : Content → List Event → Type 0) (q : Request)
    → ((start : Content) (earlier : List Event) → Before start earlier → Now start (earlier ++ Deliver q ∷ []) × Now start (earlier ++ Lose q ∷ []))
    → LeadOn Before (record { request = q; is_served = true } ∷ []) Now
lead_by_reply Before Now q step start earlier more went (event, rest, is, of, none) =
    let one : more ≡ event ∷ [] = is ∙ ap (λ l. event ∷ l) none in
    let both = step start earlier went in
    elim of [
      | inl delivered ↦ subst (λ l. Now start (earlier ++ l)) (sym (one ∙ ap (λ e. e ∷ []) delivered)) both.0
      | inr lost ↦ subst (λ l. Now start (earlier ++ l)) (sym (one ∙ ap (λ e. e ∷ []) lost)) both.1
    ]

-- one request that wasn't
pub lead_unserved : (Before Now : Content → List Event → Type 0) (q : Request)
    → ((start : Content) (earlier : List Event) → Before start earlier → Now start (earlier ++ Unserved q ∷ []))
    → LeadOn Before (record { request = q; is_served = false } ∷ []) Now
lead_unserved Before Now q step start earlier more went (event, rest, is, of, none) =
    subst (λ l. Now start (earlier ++ l)) (sym (is ∙ ap (λ l. event ∷ l) none ∙ ap (λ e. e ∷ []) of)) (step start earlier went)
