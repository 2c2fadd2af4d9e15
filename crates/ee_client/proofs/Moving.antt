-- What holds of a desk holds after each event.
use Rattle.std.proofs.Common.{◌≡◌, ◌≢◌, ◌⊎◌, inl, inr, ℕ, Bool, true, false, cond, List, [], ◌∷◌, Option, Some, None, true≢false, arith, refl, sym, ap, ◌∙◌, subst}
use Rattle.std.specs.Prelude.{IfSome, ◌==◌, nat_le}
use Rattle.std.specs.List.{AllByRecursion, Contains}
use Rattle.std.proofs.lemmas.Bool.{eqb-true, eqb-false, eq-eqb}
use Rattle.ee_desk_model.specs.declared.acts.Act.{Act}
use Rattle.ee_desk_model.specs.declared.acts.Request.{Request}
use Rattle.ee_desk_model.specs.declared.refusals.Refusal.{Refusal}
use Rattle.ee_desk_model.specs.declared.refusals.Refusal.TheVariants.{NumberReused}
use Rattle.ee_desk_model.specs.declared.replies.Reply.{Reply}
use Rattle.ee_desk_model.specs.declared.replies.Reply.TheVariants.{Refused}
use Rattle.ee_desk_model.specs.declared.replies.Reply.TheVariants as reply
use Rattle.ee_desk_model.specs.Codes.{code_of}
use Rattle.ee_desk_model.proofs.Lemmas.Maps.{all_weaker, all_both}
use Rattle.ee_desk_laws.specs.Events.{Told}
use Rattle.ee_desk_laws.proofs.Lemmas.{contained, at_head, in_tail}
use Rattle.ee_client.specs.declared.journals.Open.{Open}
use Rattle.ee_client.specs.declared.journals.Journal.{Journal}
use Rattle.ee_client.specs.declared.events.Answer.{Answer}
use Rattle.ee_client.specs.declared.events.Answer.TheVariants as answer
use Rattle.ee_client.specs.declared.events.Outcome.{Outcome}
use Rattle.ee_client.specs.declared.events.Outcome.TheVariants.{Done, Refused as Was_refused, NotDone, GivenUp}
use Rattle.ee_client.specs.declared.events.Event.{Event}
use Rattle.ee_client.specs.declared.events.Event.TheVariants.{Submit, GoOn, Written, Unwritten, Answered, GiveUp, Killed}
use Rattle.ee_client.specs.declared.events.Action.TheVariants.{Send, Wait, Refuse}
use Rattle.ee_client.specs.declared.machines.Phase.{Phase}
use Rattle.ee_client.specs.declared.machines.Phase.TheVariants.{Rest, Writing, Sent, Told as Was_told}
use Rattle.ee_client.specs.declared.machines.Machine.{Machine}
use Rattle.ee_client.specs.declared.machines.Turn.{Turn}
use Rattle.ee_client.specs.Turns.{with_new, with_sending, with_higher, without, follower_after, rests, writes, writes_new, shows, submitted, settles, gone_on, shows_dropped, after_write, written, unwritten, answered_to, answered, given_up, killed}
use Rattle.ee_client.specs.Desks.{Sending, Shown, Desk, answer_in, AreNew, CanAnswer, CanHappenAt, after_turn, moved, new_desk}
use Rattle.ee_client.proofs.Keeping.{Past, WasReused, IsAtOr, IsWaiting, OpenFits, RequestFits, Fits, EndsRight, IsFirst, PhaseFits, HasReply, HasReason, History, past_of, Keeps}
use Rattle.ee_client.proofs.Growing.{fits_asked, phase_asked, history_asked, waits, new_fits, sending_fits, sending_first, higher_fits, without_fits, history_sent, fits_sent, with_shown, history_shown, fits_shown, dropped_shown}

module _ (acts : ℕ → ℕ → Act) (first d : ℕ) (told : List Told) (k : Desk) (passes : Bool) (said : Option Reply) (h : History acts first d (past_of told k)) where
  abbrev past : Past
  past = past_of told k

  -- the turn leaves what holds
  abbrev Leaves : Turn → Type 0
  Leaves t = Keeps acts first d told (after_turn acts d k passes said t)

  abbrev Phases : Machine → Phase → Type 0
  Phases m phase = PhaseFits first d past k.is_stopped m.journal.request phase

  waiting : (m : Machine) (phase : Phase) → Fits first d past m.journal → Phases m phase → Leaves (rests m phase Wait)
  waiting m phase j p = record { history = h; journal = j; phase = p }

  refusing : (m : Machine) (phase : Phase) → Fits first d past m.journal → Phases m phase → Leaves (rests m phase Refuse)
  refusing m phase j p = record { history = h; journal = j; phase = p }

  writing : (m : Machine) (j : Journal) (outcome : Option Outcome) → Fits first d past m.journal → Fits first d past j → EndsRight d past outcome m.journal.request
      → IsFirst past j.request → Leaves (writes m j outcome)
  writing m j outcome now then ends one = record { history = h; journal = now; phase = (then, ends, one) }

  writing_new : (m : Machine) (phase : Phase) (j : Journal) (outcome : Option Outcome) → Fits first d past m.journal → Phases m phase → Fits first d past j
      → EndsRight d past outcome m.journal.request → IsFirst past j.request → Leaves (writes_new m phase j outcome)
  writing_new m phase j outcome now p then ends one = by_case (nat_le j.next m.most)
    where
      by_case : (b : Bool) → Leaves (cond b (writes m j outcome) (rests m phase Refuse))
      by_case true = writing m j outcome now then ends one
      by_case false = refusing m phase now p

  submitting : (m : Machine) (act : ℕ) (follower : Option ℕ) (phase : Phase) (o : Option Open) → Fits first d past m.journal → Phases m phase
      → IsWaiting past act → IfSome follower (λ f. IsWaiting past f × (f ≢ act)) → Leaves (submitted m act follower phase o)
  submitting m act follower Rest None j p w f = writing_new m Rest (with_new m.journal act follower) None j tt (new_fits first d past m.journal act follower j w f) tt (λ is. absurd (omega (arith, is)))
  submitting m act follower Rest (Some o) j p w f = refusing m Rest j tt
  submitting m act follower (Writing x y) o j p w f = refusing m (Writing x y) j p
  submitting m act follower Sent o j p w f = refusing m Sent j p
  submitting m act follower (Was_told x) o j p w f = refusing m (Was_told x) j p

  settling : (m : Machine) (outcome : Outcome) (o : Open) → Fits first d past m.journal → OpenFits first d past m.journal.next o → EndsRight d past (Some outcome) m.journal.request
      → Leaves (settles m outcome (follower_after outcome o))
  settling m Done o j r e = of_follower o.follower r.follower
    where
      of_follower : (f : Option ℕ) → IfSome f (λ g. IsWaiting past g × (g ≢ o.act)) → Leaves (settles m Done f)
      of_follower None w = writing m (without m.journal) (Some Done) j (without_fits first d past m.journal j) tt tt
      of_follower (Some f) w =
          writing_new m (Was_told Done) (with_new m.journal f None) (Some Done) j tt (new_fits first d past m.journal f None j w.0 tt) tt (λ is. absurd (omega (arith, is)))
  settling m Was_refused o j r e = writing m (without m.journal) (Some Was_refused) j (without_fits first d past m.journal j) tt tt
  settling m NotDone o j r e = writing m (without m.journal) (Some NotDone) j (without_fits first d past m.journal j) e tt
  settling m GivenUp o j r e = writing m (without m.journal) (Some GivenUp) j (without_fits first d past m.journal j) tt tt

  going_on : (m : Machine) (phase : Phase) (o : Option Open) → Fits first d past m.journal → RequestFits first d past m.journal.next o → Phases m phase
      → Leaves (gone_on m phase o)
  going_on m Rest None j r p = waiting m Rest j tt
  going_on m Rest (Some o) j r p =
      writing m (with_sending m.journal o) None j (sending_fits first d past m.journal o j r) tt (sending_first first d past m.journal.next m.journal o r)
  going_on m (Writing x y) o j r p = waiting m (Writing x y) j p
  going_on m Sent o j r p = waiting m Sent j p
  going_on m (Was_told outcome) None j r p = waiting m (Was_told outcome) j p
  going_on m (Was_told outcome) (Some o) j r p = settling m outcome o j r p

  -- what a dropped request shows
  dropping : (m : Machine) (before : Option Open) (outcome : Option Outcome) (next : ℕ) → Fits first d past m.journal → m.journal.request ≡ None
      → RequestFits first d past next before → EndsRight d past outcome before → Leaves (shows_dropped m before outcome)
  dropping m (Some o) (Some NotDone) next j none r e =
      let s : Shown = record { act = o.act; number = o.number; outcome = NotDone; reply = said } in
      record { history = history_shown first d past s acts h r.named e; journal = dropped_shown first d past s m.journal j none; phase = tt }
  dropping m (Some o) (Some GivenUp) next j none r e =
      let s : Shown = record { act = o.act; number = o.number; outcome = GivenUp; reply = said } in
      record { history = history_shown first d past s acts h r.named tt; journal = dropped_shown first d past s m.journal j none; phase = tt }
  dropping m (Some o) (Some Done) next j none r e = waiting m Rest j tt
  dropping m (Some o) (Some Was_refused) next j none r e = waiting m Rest j tt
  dropping m (Some o) None next j none r e = waiting m Rest j tt
  dropping m None outcome next j none r e = waiting m Rest j tt

  -- a counted request is sent
  sending : (m : Machine) (o : Open) (pass : Bool) → pass ≡ passes → Fits first d past m.journal → m.journal.request ≡ Some o → OpenFits first d past m.journal.next o
      → o.sent ≢ 0 → IsFirst past m.journal.request → Leaves (rests m Sent (Send o.number o.act))
  sending m o true is j open_is r counted one =
      subst (λ b. Keeps acts first d told (after_turn acts d k b said (rests m Sent (Send o.number o.act)))) is
      record {
        history = history_sent acts first d past m.journal.next o r counted h;
        journal = fits_sent acts first d past m.journal.next o r counted m.journal j refl open_is;
        phase = λ stopped. absurd (true≢false (sym stopped));
      }
  sending m o false is j open_is r counted one =
      subst (λ b. Keeps acts first d told (after_turn acts d k b said (rests m Sent (Send o.number o.act)))) is
      record { history = h; journal = j; phase = λ stopped. one }

  after_writing : (m : Machine) (before o : Option Open) (outcome : Option Outcome) (next : ℕ) → Fits first d past m.journal → m.journal.request ≡ o
      → RequestFits first d past next before → EndsRight d past outcome before → IsFirst past m.journal.request → Leaves (after_write m before o outcome)
  after_writing m before None outcome next j is r e one = dropping m before outcome next j is r e
  after_writing m before (Some o) outcome next j is r e one = by_case (o.sent == 0) refl
    where
      here : OpenFits first d past m.journal.next o
      here = subst (RequestFits first d past m.journal.next) is j.request

      by_case : (b : Bool) → (o.sent == 0) ≡ b
          → Leaves (cond b (writes m (with_sending m.journal o) None) (rests m Sent (Send o.number o.act)))
      by_case true none =
          writing m (with_sending m.journal o) None j (sending_fits first d past m.journal o j here) tt (sending_first first d past m.journal.next m.journal o here)
      by_case false some = sending m o passes refl j is here (eqb-false o.sent 0 some) one

  being_written : (m : Machine) (phase : Phase) → Fits first d past m.journal → Phases m phase → Leaves (written m phase)
  being_written m Rest j p = waiting m Rest j tt
  being_written m (Writing x outcome) j p =
      after_writing (record m { journal = x }) m.journal.request x.request outcome m.journal.next p.0 refl j.request p.1 p.2
  being_written m Sent j p = waiting m Sent j p
  being_written m (Was_told outcome) j p = waiting m (Was_told outcome) j p

  not_written : (m : Machine) (phase : Phase) → Fits first d past m.journal → Phases m phase → Leaves (unwritten m phase)
  not_written m Rest j p = waiting m Rest j tt
  not_written m (Writing x None) j p = waiting m Rest j tt
  not_written m (Writing x (Some outcome)) j p = waiting m (Was_told outcome) j p.1
  not_written m Sent j p = waiting m Sent j p
  not_written m (Was_told outcome) j p = waiting m (Was_told outcome) j p

  -- a request that was counted once or never, and isn't at its number, was told NumberReused of the others
  never : (o : Open) (next : ℕ) → OpenFits first d past next o → AllByRecursion (λ x. x.request.number ≢ o.number) past.sent
      → AllByRecursion (λ x. x.act ≡ o.act → WasReused told d x.request.number) past.sent
  never o next r none =
      all_weaker (λ x. (x.act ≡ o.act → IsAtOr told d o.number x) × (x.request.number ≢ o.number)) (λ x. x.act ≡ o.act → WasReused told d x.request.number)
      (λ x (f, ne) is. other x (f is) ne) past.sent
      (all_both (λ x. x.act ≡ o.act → IsAtOr told d o.number x) (λ x. x.request.number ≢ o.number) past.sent r.last none)
    where
      other : (x : Sending) → IsAtOr told d o.number x → (x.request.number ≢ o.number) → WasReused told d x.request.number
      other x (inl is) ne = absurd (ne is)
      other x (inr reused) ne = reused

  giving_up : (m : Machine) (phase : Phase) (o : Option Open) → o ≡ m.journal.request → Fits first d past m.journal → RequestFits first d past m.journal.next o → Phases m phase
      → Leaves (given_up m phase o)
  giving_up m Rest None is j r p = refusing m Rest j tt
  giving_up m Rest (Some o) is j r p = by_case (o.sent == 0) refl
    where
      by_case : (b : Bool) → (o.sent == 0) ≡ b → Leaves (writes m (without m.journal) (Some (cond b NotDone GivenUp)))
      by_case true none =
          writing m (without m.journal) (Some NotDone) j (without_fits first d past m.journal j)
          (subst (EndsRight d past (Some NotDone)) is (never o m.journal.next r (r.unsent (eqb-true o.sent 0 none)))) tt
      by_case false some = writing m (without m.journal) (Some GivenUp) j (without_fits first d past m.journal j) tt tt
  giving_up m (Writing x y) o is j r p = refusing m (Writing x y) j p
  giving_up m Sent o is j r p = refusing m Sent j p
  giving_up m (Was_told outcome) o is j r p = refusing m (Was_told outcome) j p

  being_killed : (m : Machine) (kept : Bool) (phase : Phase) → Fits first d past m.journal → Phases m phase → Leaves (killed m kept phase)
  being_killed m true Rest j p = waiting m Rest j tt
  being_killed m true (Writing x y) j p = waiting (record m { journal = x }) Rest p.0 tt
  being_killed m true Sent j p = waiting m Rest j tt
  being_killed m true (Was_told outcome) j p = waiting m Rest j tt
  being_killed m false Rest j p = waiting m Rest j tt
  being_killed m false (Writing x y) j p = waiting m Rest j tt
  being_killed m false Sent j p = waiting m Rest j tt
  being_killed m false (Was_told outcome) j p = waiting m Rest j tt

  -- an answer that isn't the counter's
  no_reply : (m : Machine) (number : ℕ) (a : Answer) (phase : Phase) (o : Option Open) → o ≡ m.journal.request → CanAnswer k a → Fits first d past m.journal
      → RequestFits first d past m.journal.next o → Phases m phase → Leaves (answered m number a phase o)
  no_reply m number a Rest o is can j r p = waiting m Rest j tt
  no_reply m number a (Writing x y) o is can j r p = waiting m (Writing x y) j p
  no_reply m number a (Was_told outcome) o is can j r p = waiting m (Was_told outcome) j p
  no_reply m number a Sent None is can j r p = waiting m Sent j p
  no_reply m number a Sent (Some o) is can j r p = by_number (number == o.number)
    where
      first_sending : k.is_stopped ≡ true → (b : Bool) → (o.sent == 1) ≡ b → Leaves (cond b (writes m (without m.journal) (Some NotDone)) (rests m Rest Wait))
      first_sending stopped true one =
          let none : IsFirst past (Some o) = subst (IsFirst past) (sym is) (p stopped) in
          writing m (without m.journal) (Some NotDone) j (without_fits first d past m.journal j)
          (subst (EndsRight d past (Some NotDone)) is (never o m.journal.next r (none (eqb-true o.sent 1 one)))) tt
      first_sending stopped false more = waiting m Rest j tt

      by_answer : (a : Answer) → CanAnswer k a → Leaves (answered_to m o a)
      by_answer answer.Fault can = first_sending can (o.sent == 1) refl
      by_answer answer.Nothing can = waiting m Rest j tt
      by_answer answer.Done can = absurd can
      by_answer answer.Refused can = absurd can
      by_answer answer.Reused can = absurd can

      by_number : (b : Bool) → Leaves (cond b (answered_to m o a) (rests m Sent Wait))
      by_number true = by_answer a can
      by_number false = waiting m Sent j p

-- NumberReused is told by its code
is_reused : (refusal : Refusal) → (code_of refusal == 10) ≡ true → refusal ≡ NumberReused
is_reused NumberReused is = refl
is_reused other is = absurd (true≢false (sym is))

pub told_reused : (r : Reply) → answer_in r ≡ answer.Reused → r ≡ Refused NumberReused
told_reused (Refused refusal) is = by_case (code_of refusal == 10) refl
  where
    by_case : (b : Bool) → (code_of refusal == 10) ≡ b → Refused refusal ≡ Refused NumberReused
    by_case true same = ap Refused (is_reused refusal same)
    by_case false other =
        let no : answer.Refused ≡ answer.Reused = sym (ap (λ b. cond b answer.Reused answer.Refused) other) ∙ is in cc
told_reused (reply.Added new same) is = cc
told_reused (reply.Opened day) is = cc
told_reused (reply.Ticket ticket) is = cc
told_reused (reply.Batch batch) is = cc

pub isn't_fault : (r : Reply) → (answer.Fault ≡ answer_in r) ⊎ (answer.Nothing ≡ answer_in r) → ⊥
isn't_fault (Refused refusal) is = by_case (code_of refusal == 10) is
  where
    by_case : (b : Bool) → (answer.Fault ≡ cond b answer.Reused answer.Refused) ⊎ (answer.Nothing ≡ cond b answer.Reused answer.Refused) → ⊥
    by_case true (inl is) = cc
    by_case true (inr is) = cc
    by_case false (inl is) = cc
    by_case false (inr is) = cc
isn't_fault (reply.Added new same) (inl is) = cc
isn't_fault (reply.Added new same) (inr is) = cc
isn't_fault (reply.Opened day) (inl is) = cc
isn't_fault (reply.Opened day) (inr is) = cc
isn't_fault (reply.Ticket ticket) (inl is) = cc
isn't_fault (reply.Ticket ticket) (inr is) = cc
isn't_fault (reply.Batch batch) (inl is) = cc
isn't_fault (reply.Batch batch) (inr is) = cc

isn't_reused : (r : Reply) → answer_in r ≢ answer.Reused → r ≢ Refused NumberReused
isn't_reused r other is = other (ap answer_in is)

module _ (acts : ℕ → ℕ → Act) (first d : ℕ) (told : List Told) (k : Desk) (t : Told) (c : Contains told t) (here : t.request.desk ≡ d)
    (x : Sending) (sent : Contains k.sent x) (was : x.request ≡ t.request) (h : History acts first d (past_of told k)) where
  abbrev Replied : Turn → Type 0
  Replied u = Keeps acts first d told (after_turn acts d k true (Some t.reply) u)

  -- a reply is shown of the request that it is for
  showing : (m : Machine) (o : Open) (outcome : Outcome) (kind : Answer) → answer_in t.reply ≡ kind → Fits first d (past_of told k) m.journal → OpenFits first d (past_of told k) m.journal.next o → t.request.number ≡ o.number
      → t.reply ≢ Refused NumberReused → outcome ≢ NotDone
      → (HasReply d (past_of told k) (record { act = o.act; number = o.number; outcome = outcome; reply = Some t.reply }) kind
      → HasReason d (past_of told k) (record { act = o.act; number = o.number; outcome = outcome; reply = Some t.reply }) outcome)
      → ((q : Past) (o : Option Open) → EndsRight d q (Some outcome) o)
      → Replied (shows m (Was_told outcome) o outcome)
  showing m o outcome kind is_kind j r at own ne reason ends =
      let s : Shown = record { act = o.act; number = o.number; outcome = outcome; reply = Some t.reply } in
      let at_x : x.request.number ≡ o.number = ap (λ (q : Request). q.number) was ∙ at in
      record {
        history = history_shown first d (past_of told k) s acts h r.named (reason (record {
          reply = t.reply;
          is = refl;
          own = own;
          kind_is = is_kind;
          told = (t, c, here, at, refl);
          sent = (x, sent, at_x, contained (λ y. y.request.number ≡ o.number → y.act ≡ o.act) k.sent x r.own sent at_x);
        }));
        journal = fits_shown first d (past_of told k) s m.journal j ne;
        phase = ends (with_shown (past_of told k) s) m.journal.request;
      }

  replying : (m : Machine) (number : ℕ) (a : Answer) (phase : Phase) (o : Option Open) → number ≡ t.request.number → a ≡ answer_in t.reply → Fits first d (past_of told k) m.journal
      → RequestFits first d (past_of told k) m.journal.next o → PhaseFits first d (past_of told k) k.is_stopped m.journal.request phase → Replied (answered m number a phase o)
  replying m number a Rest o at is j r p = waiting acts first d told k true (Some t.reply) h m Rest j tt
  replying m number a (Writing y z) o at is j r p = waiting acts first d told k true (Some t.reply) h m (Writing y z) j p
  replying m number a (Was_told outcome) o at is j r p = waiting acts first d told k true (Some t.reply) h m (Was_told outcome) j p
  replying m number a Sent None at is j r p = waiting acts first d told k true (Some t.reply) h m Sent j p
  replying m number a Sent (Some o) at is j r p = by_number (number == o.number) refl
    where
      by_answer : t.request.number ≡ o.number → (a : Answer) → a ≡ answer_in t.reply → Replied (answered_to m o a)
      by_answer own answer.Done is =
          showing m o Done answer.Done (sym is) j r own (isn't_reused t.reply (λ reused. let no : answer.Done ≡ answer.Reused = is ∙ reused in cc)) (λ no. cc) (λ g. g) (λ q o. tt)
      by_answer own answer.Refused is =
          showing m o Was_refused answer.Refused (sym is) j r own (isn't_reused t.reply (λ reused. let no : answer.Refused ≡ answer.Reused = is ∙ reused in cc)) (λ no. cc) (λ g. g) (λ q o. tt)
      by_answer own answer.Reused is =
          writing_new acts first d told k true (Some t.reply) h m Rest (with_higher o) None j tt
          (higher_fits first d (past_of told k) m.journal o j r (t, c, here, own, told_reused t.reply (sym is))) tt (λ one. absurd (omega (arith, one)))
      by_answer own answer.Fault is = absurd (isn't_fault t.reply (inl is))
      by_answer own answer.Nothing is = waiting acts first d told k true (Some t.reply) h m Rest j tt

      by_number : (b : Bool) → (number == o.number) ≡ b → Replied (cond b (answered_to m o a) (rests m Sent Wait))
      by_number true same = by_answer (sym at ∙ eqb-true number o.number same) a is
      by_number false other = waiting acts first d told k true (Some t.reply) h m Sent j p

-- ---- a desk after an event
pub reply_keeps : (acts : ℕ → ℕ → Act) (first d : ℕ) (told : List Told) (k : Desk) (t : Told) → Contains told t → t.request.desk ≡ d
    → (x : Sending) → Contains k.sent x → x.request ≡ t.request → Keeps acts first d told k
    → Keeps acts first d told (moved acts d k (Answered t.request.number (answer_in t.reply)) true (Some t.reply))
reply_keeps acts first d told k t c here x sent was h =
    replying acts first d told k t c here x sent was h.history k.machine t.request.number (answer_in t.reply) k.machine.phase k.machine.journal.request refl refl h.journal h.journal.request h.phase

submit_keeps : (acts : ℕ → ℕ → Act) (first d : ℕ) (told : List Told) (k : Desk) (passes : Bool) (act : ℕ) (follower : Option ℕ) → AreNew k.asked act follower
    → Keeps acts first d told k → Keeps acts first d told (moved acts d k (Submit act follower) passes None)
submit_keeps acts first d told k passes act None new h =
    let p = past_of told k in
    submitting acts first d told (record k { asked = act ∷ k.asked }) passes None (history_asked first d p (act ∷ []) acts h.history) k.machine act None k.machine.phase k.machine.journal.request
    (fits_asked first d p (act ∷ []) k.machine.journal h.journal) (phase_asked first d p (act ∷ []) k.is_stopped k.machine.journal.request k.machine.phase h.phase)
    (waits acts first d p (act ∷ []) act h.history new (at_head act k.asked)) tt
submit_keeps acts first d told k passes act (Some follower) new h =
    let p = past_of told k in
    submitting acts first d told (record k { asked = act ∷ follower ∷ k.asked }) passes None (history_asked first d p (act ∷ follower ∷ []) acts h.history) k.machine act (Some follower) k.machine.phase
    k.machine.journal.request
    (fits_asked first d p (act ∷ follower ∷ []) k.machine.journal h.journal) (phase_asked first d p (act ∷ follower ∷ []) k.is_stopped k.machine.journal.request k.machine.phase h.phase)
    (waits acts first d p (act ∷ follower ∷ []) act h.history new.0 (at_head act (follower ∷ k.asked))) (
      waits acts first d p (act ∷ follower ∷ []) follower h.history new.1.1 (in_tail act (follower ∷ k.asked) follower (at_head follower k.asked)),
      λ same. true≢false (sym (eq-eqb act follower (sym same)) ∙ new.1.0),
    )

pub event_keeps : (acts : ℕ → ℕ → Act) (first d : ℕ) (told : List Told) (k : Desk) (passes : Bool) (event : Event) → CanHappenAt k event
    → Keeps acts first d told k → Keeps acts first d told (moved acts d k event passes None)
event_keeps acts first d told k passes (Submit act follower) can h = submit_keeps acts first d told k passes act follower can h
event_keeps acts first d told k passes GoOn can h =
    going_on acts first d told k passes None h.history k.machine k.machine.phase k.machine.journal.request h.journal h.journal.request h.phase
event_keeps acts first d told k passes Written can h = being_written acts first d told k passes None h.history k.machine k.machine.phase h.journal h.phase
event_keeps acts first d told k passes Unwritten can h = not_written acts first d told k passes None h.history k.machine k.machine.phase h.journal h.phase
event_keeps acts first d told k passes (Answered number a) can h =
    no_reply acts first d told k passes None h.history k.machine number a k.machine.phase k.machine.journal.request refl can h.journal h.journal.request h.phase
event_keeps acts first d told k passes GiveUp can h =
    giving_up acts first d told k passes None h.history k.machine k.machine.phase k.machine.journal.request refl h.journal h.journal.request h.phase
event_keeps acts first d told k passes (Killed kept) can h = being_killed acts first d told k passes None h.history k.machine kept k.machine.phase h.journal h.phase

-- a desk with a new journal
pub new_keeps : (acts : ℕ → ℕ → Act) (most first d : ℕ) → Keeps acts first d [] (new_desk most first)
new_keeps acts most first d = record {
  history = record { named = tt; requests = tt; low = tt; one = tt; fate = λ act. (0, tt); shown_named = tt; shown = tt };
  journal = record { low = omega arith; below = tt; request = tt };
  phase = tt;
}
