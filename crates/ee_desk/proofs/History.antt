-- A keeper in memory goes through one event for each request.
use Rattle.std.proofs.Common.{◌≡◌, ◌∙◌, List, [], ◌∷◌, ◌++◌, Result, Ok, Err, refl, ap}
use Rattle.std.specs.Prelude.{true, OnOk, OnErr}
use Rattle.std.proofs.Math.Logic.{∥∥₁_map}
use Rattle.ee_desk_model.specs.declared.acts.Request.{Request}
use Rattle.ee_desk_model.specs.declared.replies.Reply.{Reply}
use Rattle.ee_desk_model.specs.declared.refusals.Unserved.{Unserved}
use Rattle.ee_desk_model.specs.PlainBooks.{PlainBooks}
use Rattle.ee_desk_model.specs.Repeats.{Content}
use Rattle.ee_desk_model.specs.Contents.{content_after}
use Rattle.ee_desk_model.specs.Answers.{answer}
use Rattle.ee_desk_laws.specs.Attempts.{LeadOn}
use Rattle.ee_desk_laws.specs.Events.{Event, World, begun, decided, unserved, Happens}
use Rattle.ee_desk_laws.specs.Events.Event.{Deliver, Lose, Unserved as NotServed}
use Rattle.ee_desk_laws.proofs.Lemmas.{happens_onward, lead_by_reply, lead_unserved}
use Rattle.ee_keeper.specs.Keeping.{attempt_at}
use Rattle.ee_desk.specs.History.{HasGone}

-- one event more
gone_on : (old new start : Content) (events : List Event) (event : Event)
    → ((w : World) → w.up ≡ true → old ≡ w.now → (v : World) × Happens w (event ∷ []) v × (v.up ≡ true) × (new ≡ v.now))
    → HasGone old start events → HasGone new start (events ++ event ∷ [])
gone_on old new start events event step gone = ∥∥₁_map gone (λ (w, happened, up, is).
    let (v, happens, still, now) = step w up is in
    (v, happens_onward events (event ∷ []) (begun start) w v happened happens, still, now))

delivered : (old new : Content) (q : Request) → new ≡ content_after old (q ∷ []) → (start : Content) (events : List Event)
    → HasGone old start events → HasGone new start (events ++ Deliver q ∷ [])
delivered old new q after start events = gone_on old new start events (Deliver q) (λ w up is.
    let v = decided w q (record { request = q; reply = answer w.now [] q } ∷ w.told) in
    (v, (v, (up, refl), refl), refl, after ∙ ap (λ (c : Content). content_after c (q ∷ [])) is))

lost : (old new : Content) (q : Request) → new ≡ content_after old (q ∷ []) → (start : Content) (events : List Event)
    → HasGone old start events → HasGone new start (events ++ Lose q ∷ [])
lost old new q after start events = gone_on old new start events (Lose q) (λ w up is.
    let v = decided w q w.told in
    (v, (v, (up, refl), refl), refl, after ∙ ap (λ (c : Content). content_after c (q ∷ [])) is))

not_served : (old new : Content) (q : Request) → new ≡ old → (start : Content) (events : List Event)
    → HasGone old start events → HasGone new start (events ++ NotServed q ∷ [])
not_served old new q same start events = gone_on old new start events (NotServed q) (λ w up is.
    let v = unserved w q in
    (v, (v, (up, refl), refl), up, same ∙ is))

module _ (IsSound : PlainBooks → Type 0) where
  abbrev pub Went : Content → Content → List Event → Type 0
  Went now start events = IsSound now.books × HasGone now start events

  pub goes : (old new : Content) (q : Request) (result : Result Reply Unserved)
      → OnOk result (new ≡ content_after old (q ∷ [])) → OnErr result (new ≡ old) → IsSound new.books
      → LeadOn (Went old) (attempt_at q result) (Went new)
  goes old new q (Ok reply) ok err sound = lead_by_reply (Went old) (Went new) q (λ start earlier went.
      ((sound, delivered old new q ok start earlier went.1), (sound, lost old new q ok start earlier went.1)))
  goes old new q (Err cause) ok err sound = lead_unserved (Went old) (Went new) q (λ start earlier went.
      (sound, not_served old new q err start earlier went.1))
