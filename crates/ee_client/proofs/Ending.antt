-- From what holds of all desks and the counter to the law.
use Rattle.std.proofs.Common.{◌≡◌, inl, inr, ℕ, ◌≤◌, Bool, true, false, ◌&&◌, List, Option, Some, None, true≢false, arith, refl, sym, ap, ◌∙◌, subst}
use Rattle.std.specs.Prelude.{◌==◌}
use Rattle.std.specs.List.{AllByRecursion, Contains, count_by, list_any}
use Rattle.std.specs.FinMap as finite
use Rattle.std.proofs.lemmas.Bool.{eqb-true, eq-eqb}
use Rattle.ee_desk_model.specs.declared.acts.Act.{Act}
use Rattle.ee_desk_model.specs.declared.acts.Request.{Request}
use Rattle.ee_desk_model.specs.declared.changes.Kept.{Kept}
use Rattle.ee_desk_model.specs.declared.acts.Act.TheVariants.{AddRates, AddBonds, OpenDay, Redeem, CloseDay}
use Rattle.ee_desk_model.specs.declared.refusals.Refusal.{Refusal}
use Rattle.ee_desk_model.specs.declared.refusals.Refusal.TheVariants.{NumberReused}
use Rattle.ee_desk_model.specs.declared.replies.Reply.TheVariants.{Refused}
use Rattle.ee_desk_model.specs.Acts.{books_after, unless_refused as books_unless}
use Rattle.ee_desk_model.specs.Effects.{accepted, unless_refused as effects_unless}
use Rattle.ee_desk_model.specs.Refusals.{refusal_of}
use Rattle.ee_desk_model.specs.Seen.{Seen, shown}
use Rattle.ee_desk_model.specs.Answers.{answer, is_of}
use Rattle.ee_desk_model.specs.Contents.{content_after}
use Rattle.ee_desk_model.specs.Numbers.{RequestKey, same_number, number_of}
use Rattle.ee_desk_model.specs.Paid.{paid_lines, NoneTwice}
use Rattle.ee_desk_model.specs.PlainBooks.{PlainBooks}
use Rattle.ee_desk_model.specs.Ranges.{IsActInRange}
use Rattle.ee_desk_model.specs.Repeats.{Content, once}
use Rattle.ee_desk_model.specs.Sound.{IsSound}
use Rattle.ee_desk_model.proofs.Lemmas.Maps.{all_weaker, same_number-is, same_number-self}
use Rattle.ee_desk_laws.specs.Events.{Told}
use Rattle.ee_desk_laws.specs.Stops.{AreDone, StillTold, SurvivesStops, HoldsAcknowledged, sent}
use Rattle.ee_desk_laws.proofs.Lemmas.{contained, decided_once, decided_at_most_once}
use Rattle.ee_client.specs.declared.events.Answer.{Answer}
use Rattle.ee_client.specs.declared.events.Answer.TheVariants as answer_kind
use Rattle.ee_client.specs.declared.events.Outcome.{Outcome}
use Rattle.ee_client.specs.declared.events.Outcome.TheVariants.{Done, Refused as Was_refused, NotDone, GivenUp}
use Rattle.ee_client.specs.Desks.{Sending, Shown, Bank, Happening, request_for, WasSent, counter_events, opened}
use Rattle.ee_client.specs.EndToEnd.{is_for, times, IsKept, IsSo, EndToEnd, RefusalsChangeNothing}
use Rattle.ee_client.specs.EndToEnd as law
use Rattle.ee_client.proofs.Counting.{all_by_each, count_by_fewer, count_by_none, any_is, any_of, all_once_new}
use Rattle.ee_client.proofs.Answering.{keeps_told, reused_is_kept, sound_after}
use Rattle.ee_client.proofs.Keeping.{WasReused, IsAtOr, HasReply, HasReason, History, past_of}
use Rattle.ee_client.proofs.Whole.{Holds, happens, all_sent, goes_onward, begins, told_decided}

both_true : (a b : Bool) → (a && b) ≡ true → (a ≡ true) × (b ≡ true)
both_true true b h = (refl, h)
both_true false b h = absurd (true≢false (sym h))

true_both : (a b : Bool) → a ≡ true → b ≡ true → (a && b) ≡ true
true_both a b h k = ap (λ c. c && b) h ∙ k

module _ (acts : ℕ → ℕ → Act) (first : ℕ → ℕ) (start : Content) (b : Bank) (done : List Request) (holds : Holds acts first b)
    (content : b.counter.now ≡ content_after start done) (still : StillTold start done b.counter.told)
    (told_done : AllByRecursion (λ t. Contains done t.request) b.counter.told) (was : AllByRecursion (WasSent acts b) done) where
  history : (d : ℕ) → History acts (first d) d (past_of b.counter.told (b.desk d))
  history d = (holds.desks d).history

  -- the requests of one number are of one act
  one_act : (d : ℕ) (x y : Sending) → Contains (b.desk d).sent x → Contains (b.desk d).sent y → x.request.number ≡ y.request.number → x.act ≡ y.act
  one_act d x y cx cy is =
      contained (λ z. x.request.number ≡ z.request.number → x.act ≡ z.act) (b.desk d).sent y
      (contained (λ z. AllByRecursion (λ w. z.request.number ≡ w.request.number → z.act ≡ w.act) (b.desk d).sent) (b.desk d).sent x (history d).one cx) cy is

  request_is : (d : ℕ) (x : Sending) → Contains (b.desk d).sent x → x.request ≡ request_for acts d x.request.number x.act
  request_is d x c = contained (λ z. z.request ≡ request_for acts d z.request.number z.act) (b.desk d).sent x (history d).requests c

  number_is : (d : ℕ) (x : Sending) → Contains (b.desk d).sent x → number_of x.request ≡ (d, x.request.number)
  number_is d x c = ap number_of (request_is d x c)

  same_act_of : (q r : Request) → WasSent acts b q → WasSent acts b r → is_of (number_of q) r ≡ true → r.act ≡ q.act
  same_act_of q r (x, cx, xq) (y, cy, yr) same =
      let numbers : number_of q ≡ number_of r = same_number-is (number_of q) (number_of r) same in
      let desks : r.desk ≡ q.desk = sym (ap (λ (n : RequestKey). n.0) numbers) in
      let here : Contains (b.desk q.desk).sent y = subst (λ e. Contains (b.desk e).sent y) desks cy in
      let at : x.request.number ≡ y.request.number =
      ap (λ (s : Request). s.number) xq ∙ ap (λ (n : RequestKey). n.1) numbers ∙ sym (ap (λ (s : Request). s.number) yr) in
      let acts_same : x.act ≡ y.act = one_act q.desk x y cx here at in
      sym (ap (λ (s : Request). s.act) yr) ∙ ap (λ (s : Request). s.act) (request_is q.desk y here) ∙ ap (acts q.desk) (sym acts_same)
      ∙ sym (ap (λ (s : Request). s.act) (request_is q.desk x cx)) ∙ ap (λ (s : Request). s.act) xq

  own_among : (q : Request) → Contains done q → list_any (is_of (number_of q)) done ≡ true
  own_among q c = any_of (is_of (number_of q)) done q c (same_number-self (number_of q))

  -- NumberReused is told of numbers that the start keeps
  reused : (d n : ℕ) → WasReused b.counter.told d n → finite.contains_key start.kept (d, n) ≡ true
  reused d n (t, c, desk, number, says) =
      let there : Contains done t.request = contained (λ u. Contains done u.request) b.counter.told t told_done c in
      let was_t : WasSent acts b t.request = contained (WasSent acts b) done t.request was there in
      let is : answer start done t.request ≡ Refused NumberReused =
      sym (contained (λ u. u.reply ≡ answer start done u.request) b.counter.told t still c) ∙ says in
      let key : number_of t.request ≡ (d, n) = λ i. (desk i, number i) in
      subst (λ k. finite.contains_key start.kept k ≡ true) key
      (reused_is_kept start done t.request (own_among t.request there)
      (all_weaker (WasSent acts b) (λ r. is_of (number_of t.request) r ≡ true → r.act ≡ t.request.act) (λ r w same. same_act_of t.request r was_t w same) done was) is)

  -- a request that was decided for an act, without repeats, stands under a number that the start doesn't keep
  not_reused : (d : ℕ) (x : Sending) (q : Request) → Contains (b.desk d).sent x → same_number (number_of x.request) (number_of q) ≡ true
      → finite.contains_key start.kept (number_of q) ≡ false → WasReused b.counter.told d x.request.number → ⊥
  not_reused d x q c same new r =
      let key : (d, x.request.number) ≡ number_of q = sym (number_is d x c) ∙ same_number-is (number_of x.request) (number_of q) same in
      true≢false (sym (subst (λ k. finite.contains_key start.kept k ≡ true) key (reused d x.request.number r)) ∙ new)

  at_most_once : (d act : ℕ) → times start done (b.desk d) act ≤ 1
  at_most_once d act =
      let (n, fate) = (history d).fate act in
      let fewer : times start done (b.desk d) act ≤ count_by (is_of (d, n)) (once start done) =
      count_by_fewer (is_for (b.desk d).sent act) (is_of (d, n)) (once start done)
      (all_weaker (λ q. finite.contains_key start.kept (number_of q) ≡ false) (λ q. is_for (b.desk d).sent act q ≡ true → is_of (d, n) q ≡ true)
      (λ q new for_act. at_last n fate q new (any_is (λ x. (x.act == act) && same_number (number_of x.request) (number_of q)) (b.desk d).sent for_act))
      (once start done) (all_once_new start done)) in
      let one : count_by (is_of (d, n)) (once start done) ≤ 1 = decided_at_most_once start done (d, n) in
      omega (arith, fewer, one)
    where
      at_last : (n : ℕ) → AllByRecursion (λ x. x.act ≡ act → IsAtOr b.counter.told d n x) (b.desk d).sent → (q : Request) → finite.contains_key start.kept (number_of q) ≡ false
          → (x : Sending) × Contains (b.desk d).sent x × (((x.act == act) && same_number (number_of x.request) (number_of q)) ≡ true) → is_of (d, n) q ≡ true
      at_last n fate q new (x, c, passes) =
          let (named, same) = both_true (x.act == act) (same_number (number_of x.request) (number_of q)) passes in
          by_fate (contained (λ y. y.act ≡ act → IsAtOr b.counter.told d n y) (b.desk d).sent x fate c (eqb-true x.act act named)) same
        where
          by_fate : IsAtOr b.counter.told d n x → same_number (number_of x.request) (number_of q) ≡ true → is_of (d, n) q ≡ true
          by_fate (inl at) same =
              subst (λ k. same_number k (number_of q) ≡ true) (number_is d x c ∙ ap (λ (m : ℕ). (d, m)) at) same
          by_fate (inr r) same = absurd (not_reused d x q c same new r)

  -- the act of a reply that is shown
  replied : (d : ℕ) (s : Shown) (kind : Answer) → HasReply d (past_of b.counter.told (b.desk d)) s kind → IsKept acts start b.counter.now done d (b.desk d) s kind
  replied d s kind h =
      let (t, ct, desk, number, says) = h.told in
      let (x, cx, at, named) = h.sent in
      let there : Contains done t.request = contained (λ u. Contains done u.request) b.counter.told t told_done ct in
      let (y, cy, yt) = contained (WasSent acts b) done t.request was there in
      let key : number_of t.request ≡ (d, s.number) = λ i. (desk i, number i) in
      let here : Contains (b.desk d).sent y = subst (λ e. Contains (b.desk e).sent y) desk cy in
      let same : x.act ≡ y.act = one_act d x y cx here (at ∙ sym number ∙ sym (ap (λ (q : Request). q.number) yt)) in
      let of : t.request.act ≡ acts d s.act =
      sym (ap (λ (q : Request). q.act) yt) ∙ ap (λ (q : Request). q.act) (request_is d y here) ∙ ap (acts d) (sym same ∙ named) in
      let is : h.reply ≡ answer start done t.request = sym says ∙ contained (λ u. u.reply ≡ answer start done u.request) b.counter.told t still ct in
      let kept : finite.get (content_after start done).kept (number_of t.request) ≡ Some (record { act = t.request.act; reply = h.reply }) =
      keeps_told start done t.request h.reply (own_among t.request there) is h.own in
      let entry : Act → Option Kept = λ a. Some (record { act = a; reply = h.reply }) in
      record {
        reply = h.reply;
        shows = h.is;
        is = h.kind_is;
        kept = ap (λ (c : Content). finite.get c.kept (d, s.number)) content ∙ ap (finite.get (content_after start done).kept) (sym key) ∙ kept ∙ ap entry of;
        once = λ new. exactly t there key x cx at named new;
      }
    where
      exactly : (t : Told) → Contains done t.request → number_of t.request ≡ (d, s.number) → (x : Sending) → Contains (b.desk d).sent x → x.request.number ≡ s.number
          → x.act ≡ s.act → finite.contains_key start.kept (d, s.number) ≡ false → times start done (b.desk d) s.act ≡ 1
      exactly t there key x cx at named new =
          let one : count_by (is_of (number_of t.request)) (once start done) ≡ 1 =
          decided_once start done t.request (subst (λ k. finite.contains_key start.kept k ≡ false) (sym key) new) there in
          let more : count_by (is_of (number_of t.request)) (once start done) ≤ times start done (b.desk d) s.act =
          count_by_fewer (is_of (number_of t.request)) (is_for (b.desk d).sent s.act) (once start done)
          (all_weaker (λ q. finite.contains_key start.kept (number_of q) ≡ false) (λ q. is_of (number_of t.request) q ≡ true → is_for (b.desk d).sent s.act q ≡ true)
          (λ q any same. any_of (λ z. (z.act == s.act) && same_number (number_of z.request) (number_of q)) (b.desk d).sent x cx
          (true_both (x.act == s.act) (same_number (number_of x.request) (number_of q)) (eq-eqb x.act s.act named)
          (subst (λ k. same_number k (number_of q) ≡ true) (key ∙ sym (number_is d x cx ∙ ap (λ (m : ℕ). (d, m)) at)) same)))
          (once start done) (all_once_new start done)) in
          let most : times start done (b.desk d) s.act ≤ 1 = at_most_once d s.act in
          omega (arith, one, more, most)

  never : (d act : ℕ) → AllByRecursion (λ x. x.act ≡ act → WasReused b.counter.told d x.request.number) (b.desk d).sent → times start done (b.desk d) act ≡ 0
  never d act all =
      count_by_none (is_for (b.desk d).sent act) (once start done)
      (all_weaker (λ q. finite.contains_key start.kept (number_of q) ≡ false) (λ q. is_for (b.desk d).sent act q ≡ false)
      (λ q new. by_case q new (is_for (b.desk d).sent act q) refl) (once start done) (all_once_new start done))
    where
      by_case : (q : Request) → finite.contains_key start.kept (number_of q) ≡ false → (c : Bool) → is_for (b.desk d).sent act q ≡ c → is_for (b.desk d).sent act q ≡ false
      by_case q new false is = is
      by_case q new true is =
          let (x, c, passes) = any_is (λ x. (x.act == act) && same_number (number_of x.request) (number_of q)) (b.desk d).sent is in
          let (named, same) = both_true (x.act == act) (same_number (number_of x.request) (number_of q)) passes in
          absurd (not_reused d x q c same new (contained (λ y. y.act ≡ act → WasReused b.counter.told d y.request.number) (b.desk d).sent x all c (eqb-true x.act act named)))

  so : (d : ℕ) (s : Shown) (outcome : Outcome) → HasReason d (past_of b.counter.told (b.desk d)) s outcome → IsSo acts start b.counter.now done d (b.desk d) s outcome
  so d s Done h = replied d s answer_kind.Done h
  so d s Was_refused h = replied d s answer_kind.Refused h
  so d s NotDone h = never d s.act h
  so d s GivenUp h = tt

  in_range : ((d act : ℕ) → IsActInRange (acts d act)) → AllByRecursion (λ q. IsActInRange q.act) done
  in_range all = all_weaker (WasSent acts b) (λ q. IsActInRange q.act)
      (λ q (x, c, is). subst IsActInRange (sym (ap (λ (r : Request). r.act) (request_is q.desk x c)) ∙ ap (λ (r : Request). r.act) is) (all q.desk x.act)) done was

  pub concludes : (happenings : List Happening) → AreDone (counter_events happenings) done
      → ((books : PlainBooks) (asked : Act) → IsSound books → IsActInRange asked → IsSound (books_after books asked)) → law.Holds acts start happenings b done
  concludes happenings requests keeps = record {
    requests = requests;
    content = content;
    at_most_once = at_most_once;
    shown = λ d. all_weaker (λ s. HasReason d (past_of b.counter.told (b.desk d)) s s.outcome) (λ s. IsSo acts start b.counter.now done d (b.desk d) s s.outcome) (λ s h. so d s s.outcome h) (b.desk d).shown (history d).shown;
    reused = all_by_each (λ t. t.reply ≡ Refused NumberReused → finite.contains_key start.kept (number_of t.request) ≡ true) b.counter.told
        (λ t c says. reused t.request.desk t.request.number (t, c, refl, refl, says));
    bonds = λ sound ranges.
        subst (λ (c : Content). NoneTwice (paid_lines c.books.tickets)) (sym content) ((sound_after keeps start done sound (in_range ranges)).once);
  }

pub end_to_end : SurvivesStops → HoldsAcknowledged
    → ((books : PlainBooks) (asked : Act) → IsSound books → IsActInRange asked → IsSound (books_after books asked)) → EndToEnd
end_to_end survives acknowledges keeps acts start most first happenings bank onward =
    let events = counter_events happenings in
    let happened = happens acts happenings (opened start most first) bank onward in
    let survived = survives start events bank.counter happened in
    let (done, are, content, still) = survived.content in
    let (told, named) = acknowledges events done are in
    let was : AllByRecursion (WasSent acts bank) done =
    all_weaker (Contains (sent events)) (WasSent acts bank) (λ q c. contained (WasSent acts bank) (sent events) q (all_sent acts happenings (opened start most first) bank onward) c) done named in (
      done,
      concludes acts first start bank done (goes_onward acts happenings first (opened start most first) bank onward (begins acts start most first)) content still
          (told_decided (Contains done) events (opened start most first).counter bank.counter happened told tt) was happenings are keeps,
    )

-- a reply of an act that isn't refused is no refusal
is_accepted : (seen : Seen) (asked : Act) (refusal : Refusal) → (accepted seen asked).reply ≡ Refused refusal → ⊥
is_accepted seen (AddRates rows) refusal is = cc
is_accepted seen (AddBonds bonds) refusal is = cc
is_accepted seen (OpenDay day) refusal is = cc
is_accepted seen (Redeem day payee serials) refusal is = cc
is_accepted seen (CloseDay day) refusal is = cc

pub refusals_change_nothing : RefusalsChangeNothing
refusals_change_nothing books asked refusal is = by_case (refusal_of (shown books) asked) is
  where
    by_case : (o : Option Refusal) → (effects_unless (shown books) asked o).reply ≡ Refused refusal → books_unless books asked o ≡ books
    by_case (Some other) is = refl
    by_case None is = absurd (is_accepted (shown books) asked refusal is)
