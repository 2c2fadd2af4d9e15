-- What a crash may leave is of requests that were sent.
use Rattle.std.proofs.Common.{◌≡◌, ◌⊎◌, inl, inr, Bool, true, false, cond, List, [], ◌∷◌, Option, Some, None, true≢false, refl, sym, ap, ◌∙◌, subst}
use Rattle.std.specs.Option.{is_some}
use Rattle.std.specs.List.{AllByRecursion}
use Rattle.std.specs.FinMap as finite
use Rattle.ee_desk_model.specs.declared.replies.Reply.TheVariants.{Refused}
use Rattle.ee_desk_model.specs.declared.refusals.Refusal.TheVariants.{NumberReused}
use Rattle.ee_desk_model.specs.declared.acts.Request.{Request}
use Rattle.ee_desk_model.specs.declared.changes.Kept.{Kept}
use Rattle.ee_desk_model.specs.Outcomes.{act}
use Rattle.ee_desk_model.specs.Numbers.{RequestKey, same_number, number_of}
use Rattle.ee_desk_model.proofs.Lemmas.Maps.{same_number-is, same_number-self, all_weaker}
use Rattle.ee_desk_model.proofs.Lemmas.Requests.{content_after-known, content_after-new, get_kept-own, content_after-first, answer_after, get_kept-insert, same_act-self}
use Rattle.ee_desk_model.specs.Repeats.{Content}
use Rattle.ee_desk_model.specs.Contents.{content_after}
use Rattle.ee_desk_model.specs.Answers.{answer, answer_for, reply_again}
use Rattle.ee_desk_model.proofs.Lemmas.Books.{some_from_is_some}
use Rattle.ee_desk_laws.specs.Events.{Event, Told, World, begun, one, decided, stopped, Leads, Happens}
use Rattle.ee_desk_laws.specs.Stops.{BeginsWith, AreDone, StillTold, IsOfEvents, SurvivesStops}
use Rattle.ee_desk_laws.specs.Events.Event.{Deliver, Lose, Unserved, Stop_within, Stop_between, Reopen}
use Rattle.ee_desk_laws.proofs.Elements.{contained}

-- what is kept before is kept after
stays : (C : Content) (q : Request) (n : RequestKey) (k : Kept) → finite.get C.kept n ≡ Some k → finite.get (one C q).kept n ≡ Some k
stays C q n k had = by_case _ refl
  where
    other : (b : Bool) → same_number n (number_of q) ≡ b → finite.contains_key C.kept (number_of q) ≡ false → cond b (Some (record { act = q.act; reply = (act C.books q.act).reply })) (finite.get C.kept n) ≡ Some k
    other true same new = absurd (true≢false (sym (ap is_some had) ∙ ap (finite.contains_key C.kept) (same_number-is n (number_of q) same) ∙ new))
    other false apart new = had

    by_case : (b : Bool) → finite.contains_key C.kept (number_of q) ≡ b → finite.get (one C q).kept n ≡ Some k
    by_case true known = ap (λ T. finite.get T.kept n) (content_after-known C q known) ∙ had
    by_case false new = ap (λ T. finite.get T.kept n) (content_after-new C q new) ∙ get_kept-insert C.kept (number_of q) _ n ∙ other (same_number n (number_of q)) refl new

-- a content answers as a reply was told
record Honours (C : Content) (t : Told) : Type 0 where
  kept : Kept
  pub is : finite.get C.kept (number_of t.request) ≡ Some kept
  pub reply : t.reply ≡ reply_again kept.act kept.reply t.request.act

honours_more : (C : Content) (q : Request) (t : Told) → Honours C t → Honours (one C q) t
honours_more C q t h = record { kept = h.kept; is = stays C q (number_of t.request) h.kept h.is; reply = h.reply }

-- one content that a crash may leave, with what is left to happen
record Fine (Goal : Content → Type 0) (Rest : List Request → Type 0) (now : Content) (told : List Told) (C : Content) : Type 0 where
  keeps : (n : RequestKey) (k : Kept) → finite.get now.kept n ≡ Some k → finite.get C.kept n ≡ Some k
  honours : AllByRecursion (Honours C) told
  ends : (done : List Request) → Rest done → Goal (content_after C done)

record AllFine (Goal : Content → Type 0) (Rest : List Request → Type 0) (w : World) : Type 0 where
  now : Fine Goal Rest w.now w.told w.now
  pub may : AllByRecursion (Fine Goal Rest w.now w.told) w.may

-- the reply just told is that of the content just left
told_now : (C : Content) (q : Request) → Honours (one C q) (record { request = q; reply = answer C [] q })
told_now C q = by_case (finite.get C.kept (number_of q)) refl
  where
    by_case : (o : Option Kept) → finite.get C.kept (number_of q) ≡ o → Honours (one C q) (record { request = q; reply = answer C [] q })
    by_case (Some k) is = record { kept = k; is = stays C q (number_of q) k is; reply = ap (answer_for C [] q) is }
    by_case None is =
        let new : Kept = record { act = q.act; reply = (act C.books q.act).reply } in
        record {
          kept = new;
          is = get_kept-own C q (number_of q) (ap is_some is) (same_number-self (number_of q));
          reply = ap (answer_for C [] q) is ∙ sym (ap (λ b. cond b new.reply (Refused NumberReused)) (same_act-self q.act));
        }

-- a kept number's reply is told again by each content that keeps it so
told_kept : (now C : Content) (q : Request) (k : Kept) → finite.get now.kept (number_of q) ≡ Some k → finite.get C.kept (number_of q) ≡ Some k → Honours C (record { request = q; reply = answer now [] q })
told_kept now C q k is here = record { kept = k; is = here; reply = ap (answer_for now [] q) is }

begins : (q : Request) (P : List Request → Type 0) (rest : List Request) → P rest → BeginsWith q P (q ∷ rest)
begins q P rest h = (rest, refl, h)

module _ (Goal : Content → Type 0) (Rest : List Request → Type 0) where
  after_one : (C : Content) (q : Request) → ((done : List Request) → BeginsWith q Rest done → Goal (content_after C done)) → (done : List Request) → Rest done → Goal (content_after (one C q) done)
  after_one C q ends done h = subst Goal (content_after-first C q done) (ends (q ∷ done) (begins q Rest done h))

  decided_now : (now : Content) (told more : List Told) (q : Request) → Fine Goal (BeginsWith q Rest) now told now → AllByRecursion (Honours (one now q)) more
      → Fine Goal Rest (one now q) more (one now q)
  decided_now now told more q h honours = record { keeps = λ n k is. is; honours = honours; ends = after_one now q h.ends }

  decided_may : (now : Content) (told more : List Told) (q : Request) (kept : Kept) → finite.get now.kept (number_of q) ≡ Some kept
      → ((C : Content) → finite.get C.kept (number_of q) ≡ Some kept → AllByRecursion (Honours C) told → AllByRecursion (Honours C) more)
      → (C : Content) → Fine Goal (BeginsWith q Rest) now told C → Fine Goal Rest (one now q) more C
  decided_may now told more q kept is honours C h =
      let here = h.keeps (number_of q) kept is in
      record {
        keeps = λ n k had. h.keeps n k (sym (ap (λ T. finite.get T.kept n) (content_after-known now q (ap is_some is))) ∙ had);
        honours = honours C here h.honours;
        ends = λ done r. subst (λ T. Goal (content_after T done)) (content_after-known C q (ap is_some here)) (after_one C q h.ends done r);
      }

  decided_fine : (w : World) (q : Request) (more : List Told) → AllFine Goal (BeginsWith q Rest) w
      → AllByRecursion (Honours (one w.now q)) more
      → ((kept : Kept) → finite.get w.now.kept (number_of q) ≡ Some kept → (C : Content) → finite.get C.kept (number_of q) ≡ Some kept → AllByRecursion (Honours C) w.told → AllByRecursion (Honours C) more)
      → AllFine Goal Rest (decided w q more)
  decided_fine w q more h honours again = by_case (finite.contains_key w.now.kept (number_of q)) refl
    where
      first : Fine Goal Rest (one w.now q) more (one w.now q)
      first = decided_now w.now w.told more q h.now honours

      by_case : (b : Bool) → finite.contains_key w.now.kept (number_of q) ≡ b → AllFine Goal Rest (record { now = one w.now q; may = cond b w.may (one w.now q ∷ []); told = more; up = true })
      by_case true known =
          let k = some_from_is_some (finite.get w.now.kept (number_of q)) known in
          record { now = first; may = all_weaker _ _ (decided_may w.now w.told more q k.0 k.1 (again k.0 k.1)) w.may h.may }
      by_case false new = record { now = first; may = (first, tt) }

  -- what isn't decided leaves what was, or is decided by a stop
  left_out : (now : Content) (told : List Told) (q : Request) (C : Content) → Fine Goal (λ done. BeginsWith q Rest done ⊎ Rest done) now told C → Fine Goal Rest now told C
  left_out now told q C h = record { keeps = h.keeps; honours = h.honours; ends = λ done r. h.ends done (inr r) }

  put_in : (now : Content) (told : List Told) (q : Request) → Fine Goal (λ done. BeginsWith q Rest done ⊎ Rest done) now told now → Fine Goal Rest now told (one now q)
  put_in now told q h = record {
    keeps = λ n k had. stays now q n k had;
    honours = all_weaker _ _ (honours_more now q) told h.honours;
    ends = after_one now q (λ done b. h.ends done (inl b));
  }

  stop : (now : Content) (told : List Told) (C : Content) → Fine Goal Rest now told C → Fine Goal Rest C told C
  stop now told C h = record { keeps = λ n k is. is; honours = h.honours; ends = h.ends }

  stopped_fine : (w : World) (C : Content) → Fine Goal Rest w.now w.told C → AllFine Goal Rest (stopped w C)
  stopped_fine w C h = record { now = stop w.now w.told C h; may = (stop w.now w.told C h, tt) }

step : (Goal : Content → Type 0) (events : List Event) (w u : World) (e : Event) → AllFine Goal (AreDone (e ∷ events)) w → Leads w e u → AllFine Goal (AreDone events) u
step Goal events w u (Deliver q) h l =
    subst (AllFine Goal (AreDone events)) (sym l.1) (decided_fine Goal (AreDone events) w q _ h
    (told_now w.now q, all_weaker _ _ (honours_more w.now q) w.told h.now.honours)
    (λ k is C here before. (told_kept w.now C q k is here, before)))
step Goal events w u (Lose q) h l =
    subst (AllFine Goal (AreDone events)) (sym l.1) (decided_fine Goal (AreDone events) w q w.told h
    (all_weaker _ _ (honours_more w.now q) w.told h.now.honours) (λ k is C here before. before))
step Goal events w u (Unserved q) h l =
    subst (AllFine Goal (AreDone events)) (sym l.1) (record {
      now = left_out Goal (AreDone events) w.now w.told q w.now h.now;
      may = (put_in Goal (AreDone events) w.now w.told q h.now, all_weaker _ _ (left_out Goal (AreDone events) w.now w.told q) w.may h.may);
    })
step Goal events w u (Stop_within q) h l =
    subst (AllFine Goal (AreDone events)) (sym l.3) (stopped_fine Goal (AreDone events) w l.1
    (contained _ (one w.now q ∷ w.may) l.1 (put_in Goal (AreDone events) w.now w.told q h.now, all_weaker _ _ (left_out Goal (AreDone events) w.now w.told q) w.may h.may) l.2))
step Goal events w u Stop_between h l = subst (AllFine Goal (AreDone events)) (sym l.2) (stopped_fine Goal (AreDone events) w l.0 (contained _ w.may l.0 h.may l.1))
step Goal events w u Reopen h l = subst (AllFine Goal (AreDone events)) (sym l.1) (record { now = h.now; may = h.may })

run : (Goal : Content → Type 0) (events : List Event) (w v : World) → AllFine Goal (AreDone events) w → Happens w events v → AllFine Goal (AreDone []) v
run Goal [] w v h l = subst (AllFine Goal (AreDone [])) (sym l) h
run Goal (e ∷ events) w v h l = run Goal events l.0 v (step Goal events w l.0 e h l.1) l.2

-- what the events make of the start
abbrev Made : Content → List Event → Content → Type 0
Made start events C = (done : List Request) × AreDone events done × (C ≡ content_after start done)

honoured : (start C : Content) (done : List Request) → C ≡ content_after start done → (told : List Told) → AllByRecursion (Honours C) told → StillTold start done told
honoured start C done is [] h = tt
honoured start C done is (t ∷ told) h =
    (h.0.reply ∙ sym (ap (answer_for C [] t.request) h.0.is) ∙ ap (λ T. answer T [] t.request) is ∙ answer_after start done t.request, honoured start C done is told h.1)

of_events : (start : Content) (events : List Event) (now : Content) (told : List Told) (C : Content) → Fine (Made start events) (AreDone []) now told C → IsOfEvents start events told C
of_events start events now told C h = let m = h.ends [] refl in (m.0, m.1, m.2, honoured start C m.0 m.2 told h.honours)

begin : (start : Content) (events : List Event) → AllFine (Made start events) (AreDone events) (begun start)
begin start events = let first : Fine (Made start events) (AreDone events) start [] start = record { keeps = λ n k is. is; honours = tt; ends = λ done r. (done, r, refl) } in record { now = first; may = (first, tt) }

pub survives : SurvivesStops
survives start events w h =
    let fine = run (Made start events) events (begun start) w (begin start events) h in
    record { content = of_events start events w.now w.told w.now fine.now; others = all_weaker _ _ (of_events start events w.now w.told) w.may fine.may }
