-- What is open can be settled by sending it again.
use Rattle.std.proofs.Common.{◌≡◌, ◌≢◌, inl, inr, ℕ, ◌+◌, ◌≤◌, Bool, true, false, cond, List, [], ◌∷◌, ◌++◌, Some, None, true≢false, arith, refl, sym, ap, ◌∙◌, subst}
use Rattle.std.specs.Prelude.{◌==◌}
use Rattle.std.specs.List.{Contains}
use Rattle.std.proofs.lemmas.Bool.{eq-eqb, ne_eqb}
use Rattle.ee_desk_model.specs.declared.acts.Act.{Act}
use Rattle.ee_desk_model.specs.declared.acts.Request.{Request}
use Rattle.ee_desk_model.specs.declared.refusals.Refusal.TheVariants.{NumberReused}
use Rattle.ee_desk_model.specs.declared.replies.Reply.TheVariants.{Refused}
use Rattle.ee_desk_model.specs.Answers.{answer}
use Rattle.ee_desk_laws.specs.Events.{Told, decided}
use Rattle.ee_desk_laws.specs.Events.Event.{Deliver, Reopen}
use Rattle.ee_desk_laws.proofs.Lemmas.{at_head}
use Rattle.ee_client.specs.declared.journals.Open.{Open}
use Rattle.ee_client.specs.declared.journals.Journal.{Journal}
use Rattle.ee_client.specs.declared.events.Answer.{Answer}
use Rattle.ee_client.specs.declared.events.Answer.TheVariants as answer_kind
use Rattle.ee_client.specs.declared.events.Outcome.TheVariants.{Done, Refused as Was_refused}
use Rattle.ee_client.specs.declared.events.Event.TheVariants.{GoOn, Written, Answered, Killed}
use Rattle.ee_client.specs.declared.events.Action.TheVariants.{Send, Wait}
use Rattle.ee_client.specs.declared.machines.Phase.TheVariants.{Rest, Writing, Sent}
use Rattle.ee_client.specs.declared.machines.Machine.{Machine}
use Rattle.ee_client.specs.Turns.{capped, with_sending, rests, writes, gone_on, answered_to}
use Rattle.ee_client.specs.Desks.{Shown, Desk, Bank, Happening, answer_in, request_for, after_turn, moved, with_desk, GoOnward, opened}
use Rattle.ee_client.specs.Desks.Happening.{At_counter, At_desk, Reply_at}
use Rattle.ee_client.specs.EndToEnd.{EndToEnd, HasReply, Settles}
use Rattle.ee_client.proofs.Keeping.{RequestFits, past_of}
use Rattle.ee_client.proofs.Moving.{told_reused, isn't_fault}
use Rattle.ee_client.proofs.Whole.{goes_onward, begins}

onward_append : (acts : ℕ → ℕ → Act) (some others : List Happening) (a b c : Bank) → GoOnward acts a some b → GoOnward acts b others c → GoOnward acts a (some ++ others) c
onward_append acts [] others a b c is on = subst (λ z. GoOnward acts z others c) is on
onward_append acts (h ∷ some) others a b c (next, goes, rest) on = (next, goes, onward_append acts some others next b c rest on)

desk_at : (acts : ℕ → ℕ → Act) (b : Bank) (d : ℕ) (k : Desk) → (with_desk acts b d k).desk d ≡ k
desk_at acts b d k = ap (λ c. cond c k (b.desk d)) (eq-eqb d d refl)

-- one sending, and its reply
module _ (acts : ℕ → ℕ → Act) (b : Bank) (d : ℕ) (o : Open) (up : b.counter.up ≡ true) (is : (b.desk d).machine.journal.request ≡ Some o) where
  abbrev k : Desk
  k = b.desk d

  abbrev m : Machine
  m = k.machine

  abbrev counted : Journal
  counted = with_sending m.journal o

  abbrev q : Request
  q = request_for acts d o.number o.act

  abbrev t : Told
  t = record { request = q; reply = answer b.counter.now [] q }

  abbrev k1 : Desk
  k1 = record k { machine = record m { phase = Rest } }

  abbrev k2 : Desk
  k2 = record k { machine = record m { phase = Writing counted None } }

  abbrev k3 : Desk
  k3 = record k {
    machine = record m { journal = counted; phase = Sent };
    sent = record { act = o.act; request = q } ∷ k.sent;
    is_stopped = false;
  }

  started : moved acts d k (Killed false) false None ≡ k1
  started = refl

  goes_on : moved acts d k1 GoOn false None ≡ k2
  goes_on = ap (λ r. after_turn acts d k1 false None (gone_on (record m { phase = Rest }) Rest r)) is

  not_none : (capped (o.sent + 1) == 0) ≡ false
  not_none = ne_eqb (capped (o.sent + 1)) 0 (λ none. omega (arith, none))

  sends : moved acts d k2 Written true None ≡ k3
  sends = ap (λ c. after_turn acts d k2 true None (cond c (writes (record m { journal = counted; phase = Writing counted None }) (with_sending counted (record o { sent = capped (o.sent + 1) })) None)
      (rests (record m { journal = counted; phase = Writing counted None }) Sent (Send o.number o.act)))) not_none

  abbrev b1 : Bank
  b1 = with_desk acts b d (moved acts d (b.desk d) (Killed false) false None)

  abbrev b2 : Bank
  b2 = with_desk acts b1 d (moved acts d (b1.desk d) GoOn false None)

  abbrev b3 : Bank
  b3 = with_desk acts b2 d (moved acts d (b2.desk d) Written true None)

  abbrev b4 : Bank
  b4 = record b3 { counter = decided b.counter q (t ∷ b.counter.told) }

  abbrev b5 : Bank
  b5 = with_desk acts b4 d (moved acts d (b4.desk d) (Answered o.number (answer_in t.reply)) true (Some t.reply))

  at1 : b1.desk d ≡ k1
  at1 = desk_at acts b d (moved acts d (b.desk d) (Killed false) false None) ∙ started

  at2 : b2.desk d ≡ k2
  at2 = desk_at acts b1 d (moved acts d (b1.desk d) GoOn false None) ∙ ap (λ z. moved acts d z GoOn false None) at1 ∙ goes_on

  at3 : b3.desk d ≡ k3
  at3 = desk_at acts b2 d (moved acts d (b2.desk d) Written true None) ∙ ap (λ z. moved acts d z Written true None) at2 ∙ sends

  abbrev sending_again : List Happening
  sending_again = At_desk d (Killed false) false ∷ At_desk d GoOn false ∷ At_desk d Written true ∷ At_counter (Deliver q) ∷ []

  pub goes_again : GoOnward acts b sending_again b4
  goes_again = (
    b1,
    (tt, refl),
    (
      b2,
      (tt, refl),
      (
        b3,
        (tt, refl),
        (
          b4,
          (decided b.counter q (t ∷ b.counter.told), (record { act = o.act; request = q }, subst (λ z. Contains z.sent (record { act = o.act; request = q })) (sym at3) (at_head _ k.sent), refl), (up, refl), refl),
          refl,
        ),
      ),
    ),
  )

  -- the turn of the reply
  answer_turn : moved acts d (b4.desk d) (Answered o.number (answer_in t.reply)) true (Some t.reply)
      ≡ after_turn acts d k3 true (Some t.reply) (answered_to k3.machine (record o { sent = capped (o.sent + 1) }) (answer_in t.reply))
  answer_turn =
      ap (λ z. moved acts d z (Answered o.number (answer_in t.reply)) true (Some t.reply)) at3
      ∙ ap (λ c. after_turn acts d k3 true (Some t.reply) (cond c (answered_to k3.machine (record o { sent = capped (o.sent + 1) }) (answer_in t.reply)) (rests k3.machine Sent Wait)))
      (eq-eqb o.number o.number refl)

  abbrev IsShown : Desk → Type 0
  IsShown desk = (s : Shown) × Contains desk.shown s × (s.act ≡ o.act) × HasReply s.outcome

  pub is_shown : t.reply ≢ Refused NumberReused → IsShown (b5.desk d)
  is_shown own = subst IsShown (sym (desk_at acts b4 d (moved acts d (b4.desk d) (Answered o.number (answer_in t.reply)) true (Some t.reply)) ∙ answer_turn)) (by_answer (answer_in t.reply) refl)
    where
      by_answer : (a : Answer) → a ≡ answer_in t.reply → IsShown (after_turn acts d k3 true (Some t.reply) (answered_to k3.machine (record o { sent = capped (o.sent + 1) }) a))
      by_answer answer_kind.Done same = (record { act = o.act; number = o.number; outcome = Done; reply = Some t.reply }, at_head _ k.shown, refl, tt)
      by_answer answer_kind.Refused same = (record { act = o.act; number = o.number; outcome = Was_refused; reply = Some t.reply }, at_head _ k.shown, refl, tt)
      by_answer answer_kind.Reused same = absurd (own (told_reused t.reply (sym same)))
      by_answer answer_kind.Fault same = absurd (isn't_fault t.reply (inl same))
      by_answer answer_kind.Nothing same = absurd (isn't_fault t.reply (inr same))

pub settles : EndToEnd → Settles
settles law acts start most first happenings bank onward d o is fresh = by_up bank.counter.up refl
  where
    low : first d ≤ o.number
    low = (subst (RequestFits (first d) d (past_of bank.counter.told (bank.desk d)) (bank.desk d).machine.journal.next) is
        ((goes_onward acts happenings first (opened start most first) bank onward (begins acts start most first)).desks d).journal.request).low

    from : (b : Bank) (before : List Happening) → GoOnward acts bank before b → b.counter.up ≡ true → (b.desk d).machine.journal.request ≡ Some o
        → (more : List Happening) × (after : Bank) × (s : Shown) × GoOnward acts bank more after × Contains (after.desk d).shown s × (s.act ≡ o.act) × HasReply s.outcome
    from b before goes up there =
        let so_far : GoOnward acts bank (before ++ sending_again acts b d o up there) (b4 acts b d o up there) =
        onward_append acts before (sending_again acts b d o up there) bank b (b4 acts b d o up there) goes (goes_again acts b d o up there) in
        let whole = law acts start most first (happenings ++ (before ++ sending_again acts b d o up there)) (b4 acts b d o up there)
        (onward_append acts happenings (before ++ sending_again acts b d o up there) (opened start most first) bank (b4 acts b d o up there) onward so_far) in
        let own : (t acts b d o up there).reply ≢ Refused NumberReused = λ reused. true≢false (sym (whole.1.reused.0 reused) ∙ fresh o.number low) in
        let (s, among, named, replied) = is_shown acts b d o up there own in (
          (before ++ sending_again acts b d o up there) ++ Reply_at d (t acts b d o up there) ∷ [],
          b5 acts b d o up there,
          s,
          onward_append acts (before ++ sending_again acts b d o up there) (Reply_at d (t acts b d o up there) ∷ []) bank (b4 acts b d o up there) (b5 acts b d o up there) so_far
              (b5 acts b d o up there, (at_head _ b.counter.told, refl, refl), refl),
          among,
          named,
          replied,
        )

    by_up : (u : Bool) → bank.counter.up ≡ u
        → (more : List Happening) × (after : Bank) × (s : Shown) × GoOnward acts bank more after × Contains (after.desk d).shown s × (s.act ≡ o.act) × HasReply s.outcome
    by_up true up = from bank [] refl up is
    by_up false down =
        let reopened : Bank = record bank { counter = record bank.counter { up = true } } in
        from reopened (At_counter Reopen ∷ []) (reopened, (record bank.counter { up = true }, tt, (down, refl), refl), refl) refl is
