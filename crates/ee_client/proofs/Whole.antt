-- What holds of all desks and the counter, whatever happens.
use Rattle.std.proofs.Common.{◌≡◌, ◌⊎◌, inl, inr, ℕ, Bool, true, false, cond, List, [], ◌∷◌, Option, Some, None, refl, sym, ap, subst}
use Rattle.std.specs.Prelude.{IfSome, ◌==◌}
use Rattle.std.specs.List.{AllByRecursion, Contains}
use Rattle.std.proofs.lemmas.Bool.{eqb-true}
use Rattle.ee_desk_model.specs.declared.acts.Act.{Act}
use Rattle.ee_desk_model.specs.declared.acts.Request.{Request}
use Rattle.ee_desk_model.specs.declared.replies.Reply.{Reply}
use Rattle.ee_desk_model.specs.Repeats.{Content}
use Rattle.ee_desk_model.specs.Answers.{answer}
use Rattle.ee_desk_model.proofs.Lemmas.Maps.{all_weaker}
use Rattle.ee_desk_laws.specs.Events.{Event as CounterEvent, Told, World, Leads, Happens}
use Rattle.ee_desk_laws.specs.Events.Event.{Deliver, Lose, Unserved, Stop_within, Stop_between, Reopen}
use Rattle.ee_desk_laws.specs.Stops.{request_of, sent, acknowledged}
use Rattle.ee_desk_laws.proofs.Lemmas.{contained, in_tail}
use Rattle.ee_client.specs.declared.events.Event.{Event}
use Rattle.ee_client.specs.declared.events.Event.TheVariants.{Answered}
use Rattle.ee_client.specs.declared.events.Action.{Action}
use Rattle.ee_client.specs.declared.events.Action.TheVariants.{Write, Send, Show, Wait, Refuse}
use Rattle.ee_client.specs.Turns.{turn}
use Rattle.ee_client.specs.Desks.{Sending, Desk, Bank, Happening, answer_in, asked_with, after_action, moved, with_desk, WasSent, Goes, GoOnward, counter_events, opened}
use Rattle.ee_client.specs.Desks.Happening.{At_counter, At_desk, Reply_at}
use Rattle.ee_client.proofs.Keeping.{Keeps, keeps_told}
use Rattle.ee_client.proofs.Moving.{event_keeps, reply_keeps, new_keeps}

module _ (acts : ℕ → ℕ → Act) where
  -- ---- what was sent stays so
  sent_by_action : (d : ℕ) (k : Desk) (passes : Bool) (said : Option Reply) (action : Action) (x : Sending) → Contains k.sent x
      → Contains (after_action acts d k passes said action).sent x
  sent_by_action d k true said (Send number act) x c = in_tail _ k.sent x c
  sent_by_action d k false said (Send number act) x c = c
  sent_by_action d k passes said (Show number act outcome) x c = c
  sent_by_action d k passes said (Write j) x c = c
  sent_by_action d k passes said Wait x c = c
  sent_by_action d k passes said Refuse x c = c

  sent_by_move : (d : ℕ) (k : Desk) (event : Event) (passes : Bool) (said : Option Reply) (x : Sending) → Contains k.sent x → Contains (moved acts d k event passes said).sent x
  sent_by_move d k event passes said x c =
      sent_by_action d (record (record k { asked = asked_with event k.asked }) { machine = (turn k.machine event).machine }) passes said (turn k.machine event).action x c

  sent_at_desk : (b : Bank) (d : ℕ) (event : Event) (passes : Bool) (said : Option Reply) (q : Request) → WasSent acts b q
      → WasSent acts (with_desk acts b d (moved acts d (b.desk d) event passes said)) q
  sent_at_desk b d event passes said q (x, c, is) = (x, by_case (q.desk == d) refl, is)
    where
      by_case : (same : Bool) → (q.desk == d) ≡ same → Contains (cond same (moved acts d (b.desk d) event passes said) (b.desk q.desk)).sent x
      by_case true here = sent_by_move d (b.desk d) event passes said x (subst (λ e. Contains (b.desk e).sent x) (eqb-true q.desk d here) c)
      by_case false other = c

  pub stays_sent : (b c : Bank) (happening : Happening) → Goes acts b happening c → (q : Request) → WasSent acts b q → WasSent acts c q
  stays_sent b c (At_counter event) (w, named, leads, is) q was = subst (λ z. WasSent acts z q) (sym is) was
  stays_sent b c (At_desk d event passes) (can, is) q was = subst (λ z. WasSent acts z q) (sym is) (sent_at_desk b d event passes None q was)
  stays_sent b c (Reply_at d t) (among, here, is) q was =
      subst (λ z. WasSent acts z q) (sym is) (sent_at_desk b d (Answered t.request.number (answer_in t.reply)) true (Some t.reply) q was)

  pub stays_sent_onward : (happenings : List Happening) (b c : Bank) → GoOnward acts b happenings c → (q : Request) → WasSent acts b q → WasSent acts c q
  stays_sent_onward [] b c is q was = subst (λ z. WasSent acts z q) (sym is) was
  stays_sent_onward (happening ∷ happenings) b c (next, goes, on) q was = stays_sent_onward happenings next c on q (stays_sent b next happening goes q was)

  -- ---- the counter meets what was sent, and its events happen
  pub happens : (happenings : List Happening) (b c : Bank) → GoOnward acts b happenings c → Happens b.counter (counter_events happenings) c.counter
  happens [] b c is = ap (λ (z : Bank). z.counter) is
  happens (At_counter event ∷ happenings) b c (next, (w, named, leads, is), on) =
      (w, leads, subst (λ v. Happens v (counter_events happenings) c.counter) (ap (λ (z : Bank). z.counter) is) (happens happenings next c on))
  happens (At_desk d event passes ∷ happenings) b c (next, (can, is), on) =
      subst (λ v. Happens v (counter_events happenings) c.counter) (ap (λ (z : Bank). z.counter) is) (happens happenings next c on)
  happens (Reply_at d t ∷ happenings) b c (next, (among, here, is), on) =
      subst (λ v. Happens v (counter_events happenings) c.counter) (ap (λ (z : Bank). z.counter) is) (happens happenings next c on)

  pub all_sent : (happenings : List Happening) (b c : Bank) → GoOnward acts b happenings c → AllByRecursion (WasSent acts c) (sent (counter_events happenings))
  all_sent [] b c is = tt
  all_sent (At_counter event ∷ happenings) b c (next, (w, named, leads, is), on) = of_event event named (all_sent happenings next c on)
    where
      was : (q : Request) → WasSent acts b q → WasSent acts c q
      was q s = stays_sent_onward happenings next c on q (subst (λ z. WasSent acts z q) (sym is) s)

      of_event : (e : CounterEvent) → IfSome (request_of e) (WasSent acts b) → AllByRecursion (WasSent acts c) (sent (counter_events happenings))
          → AllByRecursion (WasSent acts c) (sent (e ∷ counter_events happenings))
      of_event (Deliver q) s rest = (was q s, rest)
      of_event (Lose q) s rest = (was q s, rest)
      of_event (Unserved q) s rest = (was q s, rest)
      of_event (Stop_within q) s rest = (was q s, rest)
      of_event Stop_between s rest = rest
      of_event Reopen s rest = rest
  all_sent (At_desk d event passes ∷ happenings) b c (next, goes, on) = all_sent happenings next c on
  all_sent (Reply_at d t ∷ happenings) b c (next, goes, on) = all_sent happenings next c on

  -- ---- what holds of each desk
  pub record Holds (first : ℕ → ℕ) (b : Bank) : Type 0 where
    pub desks : (d : ℕ) → Keeps acts (first d) d b.counter.told (b.desk d)
    pub told : AllByRecursion (λ t. WasSent acts b t.request) b.counter.told

  abbrev TellsMore : CounterEvent → World → World → Type 0
  TellsMore event w v = (v.told ≡ w.told) ⊎ ((t : Told) × (v.told ≡ t ∷ w.told) × (request_of event ≡ Some t.request))

  tells_more : (event : CounterEvent) (w v : World) → Leads w event v → TellsMore event w v
  tells_more (Deliver q) w v (up, is) = inr (record { request = q; reply = answer w.now [] q }, ap (λ (z : World). z.told) is, refl)
  tells_more (Lose q) w v (up, is) = inl (ap (λ (z : World). z.told) is)
  tells_more (Unserved q) w v (up, is) = inl (ap (λ (z : World). z.told) is)
  tells_more (Stop_within q) w v (up, left, among, is) = inl (ap (λ (z : World). z.told) is)
  tells_more Stop_between w v (left, among, is) = inl (ap (λ (z : World). z.told) is)
  tells_more Reopen w v (up, is) = inl (ap (λ (z : World). z.told) is)

  at_counter : (first : ℕ → ℕ) (b : Bank) (event : CounterEvent) (w : World) → IfSome (request_of event) (WasSent acts b) → TellsMore event b.counter w → Holds first b
      → Holds first (record b { counter = w })
  at_counter first b event w named (inl same) h = record {
    desks = λ d. subst (λ l. Keeps acts (first d) d l (b.desk d)) (sym same) (h.desks d);
    told = subst (AllByRecursion (λ t. WasSent acts b t.request)) (sym same) h.told;
  }
  at_counter first b event w named (inr (t, more, of)) h = record {
    desks = λ d. subst (λ l. Keeps acts (first d) d l (b.desk d)) (sym more) (keeps_told acts (first d) d b.counter.told t (b.desk d) (h.desks d));
    told = subst (AllByRecursion (λ u. WasSent acts b u.request)) (sym more) (subst (λ o. IfSome o (WasSent acts b)) of named, h.told);
  }

  at_desk : (first : ℕ → ℕ) (b : Bank) (d : ℕ) (event : Event) (passes : Bool) (said : Option Reply) → Keeps acts (first d) d b.counter.told (moved acts d (b.desk d) event passes said)
      → Holds first b → Holds first (with_desk acts b d (moved acts d (b.desk d) event passes said))
  at_desk first b d event passes said keeps h = record {
    desks = λ e. by_case e (e == d) refl;
    told = all_weaker (λ t. WasSent acts b t.request) (λ t. WasSent acts (with_desk acts b d (moved acts d (b.desk d) event passes said)) t.request)
        (λ t was. sent_at_desk b d event passes said t.request was) b.counter.told h.told;
  }
    where
      by_case : (e : ℕ) (same : Bool) → (e == d) ≡ same → Keeps acts (first e) e b.counter.told (cond same (moved acts d (b.desk d) event passes said) (b.desk e))
      by_case e true here = subst (λ f. Keeps acts (first f) f b.counter.told (moved acts d (b.desk d) event passes said)) (sym (eqb-true e d here)) keeps
      by_case e false other = h.desks e

  goes_on : (first : ℕ → ℕ) (b c : Bank) (happening : Happening) → Goes acts b happening c → Holds first b → Holds first c
  goes_on first b c (At_counter event) (w, named, leads, is) h = subst (Holds first) (sym is) (at_counter first b event w named (tells_more event b.counter w leads) h)
  goes_on first b c (At_desk d event passes) (can, is) h =
      subst (Holds first) (sym is) (at_desk first b d event passes None (event_keeps acts (first d) d b.counter.told (b.desk d) passes event can (h.desks d)) h)
  goes_on first b c (Reply_at d t) (among, here, is) h =
      let (x, there, was) = contained (λ u. WasSent acts b u.request) b.counter.told t h.told among in
      subst (Holds first) (sym is) (at_desk first b d (Answered t.request.number (answer_in t.reply)) true (Some t.reply)
      (reply_keeps acts (first d) d b.counter.told (b.desk d) t among here x (subst (λ e. Contains (b.desk e).sent x) here there) was (h.desks d)) h)

  pub goes_onward : (happenings : List Happening) (first : ℕ → ℕ) (b c : Bank) → GoOnward acts b happenings c → Holds first b → Holds first c
  goes_onward [] first b c is h = subst (Holds first) (sym is) h
  goes_onward (happening ∷ happenings) first b c (next, goes, on) h = goes_onward happenings first next c on (goes_on first b next happening goes h)

  pub begins : (start : Content) (most : ℕ) (first : ℕ → ℕ) → Holds first (opened start most first)
  begins start most first = record { desks = λ d. new_keeps acts most (first d) d; told = tt }

-- ---- what the counter told it decided
pub told_decided : (P : Request → Type 0) (events : List CounterEvent) (w v : World) → Happens w events v → AllByRecursion P (acknowledged events)
    → AllByRecursion (λ t. P t.request) w.told → AllByRecursion (λ t. P t.request) v.told
told_decided P [] w v is a h = subst (λ (z : World). AllByRecursion (λ t. P t.request) z.told) (sym is) h
told_decided P (Deliver q ∷ events) w v (u, (up, is), on) a h =
    told_decided P events u v on a.1 (subst (λ (z : World). AllByRecursion (λ t. P t.request) z.told) (sym is) (a.0, h))
told_decided P (Lose q ∷ events) w v (u, (up, is), on) a h = told_decided P events u v on a (subst (λ (z : World). AllByRecursion (λ t. P t.request) z.told) (sym is) h)
told_decided P (Unserved q ∷ events) w v (u, (up, is), on) a h = told_decided P events u v on a (subst (λ (z : World). AllByRecursion (λ t. P t.request) z.told) (sym is) h)
told_decided P (Stop_within q ∷ events) w v (u, (up, left, among, is), on) a h =
    told_decided P events u v on a (subst (λ (z : World). AllByRecursion (λ t. P t.request) z.told) (sym is) h)
told_decided P (Stop_between ∷ events) w v (u, (left, among, is), on) a h =
    told_decided P events u v on a (subst (λ (z : World). AllByRecursion (λ t. P t.request) z.told) (sym is) h)
told_decided P (Reopen ∷ events) w v (u, (up, is), on) a h = told_decided P events u v on a (subst (λ (z : World). AllByRecursion (λ t. P t.request) z.told) (sym is) h)
