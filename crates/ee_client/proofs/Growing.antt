-- A desk whose teller asks for more, whose client sends once more, or shows something.
use Rattle.std.proofs.Common.{◌≡◌, ◌≢◌, inl, inr, ℕ, ◌+◌, ◌*◌, ◌<◌, Bool, true, false, List, [], ◌∷◌, ◌++◌, Option, Some, None, true≢false, arith, refl, sym, ◌∙◌, subst}
use Rattle.std.specs.Prelude.{IfSome, ◌==◌}
use Rattle.std.specs.List.{AllByRecursion, Contains}
use Rattle.std.proofs.lemmas.Bool.{eqb-true, eq-eqb}
use Rattle.ee_desk_model.specs.declared.acts.Act.{Act}
use Rattle.ee_desk_model.proofs.Lemmas.Maps.{all_weaker}
use Rattle.ee_desk_laws.proofs.Lemmas.{contained, in_tail}
use Rattle.ee_client.specs.declared.journals.Open.{Open}
use Rattle.ee_client.specs.declared.journals.Journal.{Journal}
use Rattle.ee_client.specs.declared.events.Outcome.{Outcome}
use Rattle.ee_client.specs.declared.events.Outcome.TheVariants.{Done, Refused as Was_refused, NotDone, GivenUp}
use Rattle.ee_client.specs.declared.machines.Phase.{Phase}
use Rattle.ee_client.specs.declared.machines.Phase.TheVariants.{Rest, Writing, Sent, Told as Was_told}
use Rattle.ee_client.specs.Turns.{capped, with_new, with_sending, with_higher, without}
use Rattle.ee_client.specs.Desks.{Sending, Shown, request_for, IsOther}
use Rattle.ee_client.proofs.Counting.{all_by_each}
use Rattle.ee_client.proofs.Keeping.{Past, WasReused, IsAtOr, IsWaiting, OpenFits, RequestFits, Fits, EndsRight, IsFirst, PhaseFits, HasReason, History}

in_more : {A : Type 0} (more xs : List A) (x : A) → Contains xs x → Contains (more ++ xs) x
in_more [] xs x c = c
in_more (y ∷ more) xs x c = in_tail y (more ++ xs) x (in_more more xs x c)

-- ---- names more
abbrev pub with_asked : Past → List ℕ → Past
with_asked p names = record p { asked = names ++ p.asked }

module _ (first d : ℕ) (p : Past) (names : List ℕ) where
  open_asked : (next : ℕ) (o : Open) → OpenFits first d p next o → OpenFits first d (with_asked p names) next o
  open_asked next o h = record {
    named = in_more names p.asked o.act h.named;
    low = h.low;
    counted = h.counted;
    steps = h.steps;
    own = h.own;
    last = h.last;
    unsent = h.unsent;
    unsaid = h.unsaid;
    follower = of_follower o.follower h.follower;
  }
    where
      of_follower : (f : Option ℕ) → IfSome f (λ g. IsWaiting p g × (g ≢ o.act)) → IfSome f (λ g. IsWaiting (with_asked p names) g × (g ≢ o.act))
      of_follower None h = h
      of_follower (Some f) (w, ne) = (record { named = in_more names p.asked f w.named; unsent = w.unsent; unsaid = w.unsaid }, ne)

  request_asked : (next : ℕ) (o : Option Open) → RequestFits first d p next o → RequestFits first d (with_asked p names) next o
  request_asked next None h = tt
  request_asked next (Some o) h = open_asked next o h

  pub fits_asked : (j : Journal) → Fits first d p j → Fits first d (with_asked p names) j
  fits_asked j h = record { low = h.low; below = h.below; request = request_asked j.next j.request h.request }

  ends_asked : (outcome : Option Outcome) (o : Option Open) → EndsRight d p outcome o → EndsRight d (with_asked p names) outcome o
  ends_asked (Some NotDone) (Some o) h = h
  ends_asked (Some NotDone) None h = tt
  ends_asked (Some Done) o h = tt
  ends_asked (Some Was_refused) o h = tt
  ends_asked (Some GivenUp) o h = tt
  ends_asked None o h = tt

  first_asked : (o : Option Open) → IsFirst p o → IsFirst (with_asked p names) o
  first_asked None h = tt
  first_asked (Some o) h = h

  pub phase_asked : (stopped : Bool) (o : Option Open) (phase : Phase) → PhaseFits first d p stopped o phase → PhaseFits first d (with_asked p names) stopped o phase
  phase_asked stopped o Rest h = tt
  phase_asked stopped o (Writing j told) h = (fits_asked j h.0, ends_asked told o h.1, first_asked j.request h.2)
  phase_asked stopped o Sent h = λ is. first_asked o (h is)
  phase_asked stopped o (Was_told outcome) h = ends_asked (Some outcome) o h

  reason_asked : (s : Shown) (outcome : Outcome) → HasReason d p s outcome → HasReason d (with_asked p names) s outcome
  reason_asked s Done h = record { reply = h.reply; is = h.is; own = h.own; kind_is = h.kind_is; told = h.told; sent = h.sent }
  reason_asked s Was_refused h = record { reply = h.reply; is = h.is; own = h.own; kind_is = h.kind_is; told = h.told; sent = h.sent }
  reason_asked s NotDone h = h
  reason_asked s GivenUp h = tt

  pub history_asked : (acts : ℕ → ℕ → Act) → History acts first d p → History acts first d (with_asked p names)
  history_asked acts h = record {
    named = all_weaker (λ x. Contains p.asked x.act) (λ x. Contains (names ++ p.asked) x.act) (λ x c. in_more names p.asked x.act c) p.sent h.named;
    requests = h.requests;
    low = h.low;
    one = h.one;
    fate = h.fate;
    shown_named = all_weaker (λ s. Contains p.asked s.act) (λ s. Contains (names ++ p.asked) s.act) (λ s c. in_more names p.asked s.act c) p.shown h.shown_named;
    shown = all_weaker (λ s. HasReason d p s s.outcome) (λ s. HasReason d (with_asked p names) s s.outcome) (λ s r. reason_asked s s.outcome r) p.shown h.shown;
  }

-- another name is another act
other_name : (asked : List ℕ) (name act : ℕ) → IsOther asked name → Contains asked act → act ≢ name
other_name asked name act others c is =
    true≢false (sym (eq-eqb act name is) ∙ contained (λ other. (other == name) ≡ false) asked act others c)

-- a new name was never sent, and nothing was said of it
pub waits : (acts : ℕ → ℕ → Act) (first d : ℕ) (p : Past) (names : List ℕ) (act : ℕ) → History acts first d p → IsOther p.asked act → Contains (names ++ p.asked) act
    → IsWaiting (with_asked p names) act
waits acts first d p names act h others here = record {
  named = here;
  unsent = all_weaker (λ x. Contains p.asked x.act) (λ x. x.act ≢ act) (λ x c. other_name p.asked act x.act others c) p.sent h.named;
  unsaid = all_weaker (λ s. Contains p.asked s.act) (λ s. s.outcome ≡ NotDone → s.act ≢ act) (λ s c said. other_name p.asked act s.act others c) p.shown h.shown_named;
}

-- ---- what is written
-- a request that waited, at the next number
pub new_fits : (first d : ℕ) (p : Past) (j : Journal) (act : ℕ) (follower : Option ℕ) → Fits first d p j → IsWaiting p act
    → IfSome follower (λ f. IsWaiting p f × (f ≢ act)) → Fits first d p (with_new j act follower)
new_fits first d p j act follower h w f = record {
  low = omega (arith, h.low);
  below = all_weaker (λ x. x.request.number < j.next) (λ x. x.request.number < j.next + 1) (λ x l. omega (arith, l)) p.sent h.below;
  request = record {
    named = w.named;
    low = h.low;
    counted = refl;
    steps = omega arith;
    own = all_weaker (λ x. x.request.number < j.next) (λ x. x.request.number ≡ j.next → x.act ≡ act) (λ x l is. absurd (omega (arith, l, is))) p.sent h.below;
    last = all_weaker (λ x. x.act ≢ act) (λ x. x.act ≡ act → IsAtOr p.told d j.next x) (λ x ne is. absurd (ne is)) p.sent w.unsent;
    unsent = λ is. all_weaker (λ x. x.request.number < j.next) (λ x. x.request.number ≢ j.next) (λ x l is. omega (arith, l, is)) p.sent h.below;
    unsaid = w.unsaid;
    follower = f;
  };
}

capped_some : (n : ℕ) → capped (n + 1) ≡ 0 → ⊥
capped_some n is = omega (arith, is)

capped_one : (n : ℕ) → capped (n + 1) ≡ 1 → n ≡ 0
capped_one n is = omega (arith, is)

doubled : (n : ℕ) → 0 < n → 0 < capped (2 * n)
doubled n h = omega (arith, h)

-- the request, counted once more
pub sending_fits : (first d : ℕ) (p : Past) (j : Journal) (o : Open) → Fits first d p j → OpenFits first d p j.next o → Fits first d p (with_sending j o)
sending_fits first d p j o h r = record {
  low = h.low;
  below = h.below;
  request = record { named = r.named; low = r.low; counted = r.counted; steps = r.steps; own = r.own; last = r.last; unsent = λ is. absurd (capped_some o.sent is); unsaid = r.unsaid; follower = r.follower };
}

pub sending_first : (first d : ℕ) (p : Past) (next : ℕ) (j : Journal) (o : Open) → OpenFits first d p next o → IsFirst p ((with_sending j o).request)
sending_first first d p next j o r is = r.unsent (capped_one o.sent is)

-- the request under a higher number, once NumberReused was told of its number
pub higher_fits : (first d : ℕ) (p : Past) (j : Journal) (o : Open) → Fits first d p j → OpenFits first d p j.next o
    → WasReused p.told d o.number → Fits first d p (with_higher o)
higher_fits first d p j o h r reused = record {
  low = omega (arith, r.low);
  below = all_weaker (λ x. x.request.number < j.next) (λ x. x.request.number < o.number + o.step + 1) (λ x l. omega (arith, l, r.counted)) p.sent h.below;
  request = record {
    named = r.named;
    low = omega (arith, r.low);
    counted = refl;
    steps = doubled o.step r.steps;
    own = all_weaker (λ x. x.request.number < j.next) (λ x. x.request.number ≡ o.number + o.step → x.act ≡ o.act) (λ x l is. absurd (omega (arith, l, r.counted, r.steps, is))) p.sent h.below;
    last = all_weaker (λ x. x.act ≡ o.act → IsAtOr p.told d o.number x) (λ x. x.act ≡ o.act → IsAtOr p.told d (o.number + o.step) x) (λ x f is. moved_on x (f is)) p.sent r.last;
    unsent = λ none. all_weaker (λ x. x.request.number < j.next) (λ x. x.request.number ≢ o.number + o.step) (λ x l is. omega (arith, l, r.counted, r.steps, is)) p.sent h.below;
    unsaid = r.unsaid;
    follower = r.follower;
  };
}
  where
    moved_on : (x : Sending) → IsAtOr p.told d o.number x → IsAtOr p.told d (o.number + o.step) x
    moved_on x (inl is) = inr (subst (WasReused p.told d) (sym is) reused)
    moved_on x (inr other) = inr other

pub without_fits : (first d : ℕ) (p : Past) (j : Journal) → Fits first d p j → Fits first d p (without j)
without_fits first d p j h = record { low = h.low; below = h.below; request = tt }

-- ---- one sending more
abbrev pub with_sent : Past → Sending → Past
with_sent p x = record p { sent = x ∷ p.sent }

module _ (acts : ℕ → ℕ → Act) (first d : ℕ) (p : Past) (next : ℕ) (o : Open) (r : OpenFits first d p next o) (counted : o.sent ≢ 0) where
  abbrev sending : Sending
  sending = record { act = o.act; request = request_for acts d o.number o.act }

  open_sent : OpenFits first d (with_sent p sending) next o
  open_sent = record {
    named = r.named;
    low = r.low;
    counted = r.counted;
    steps = r.steps;
    own = (λ is. refl, r.own);
    last = (λ is. inl refl, r.last);
    unsent = λ is. absurd (counted is);
    unsaid = r.unsaid;
    follower = of_follower o.follower r.follower;
  }
    where
      of_follower : (f : Option ℕ) → IfSome f (λ g. IsWaiting p g × (g ≢ o.act)) → IfSome f (λ g. IsWaiting (with_sent p sending) g × (g ≢ o.act))
      of_follower None h = h
      of_follower (Some f) (w, ne) = (record { named = w.named; unsent = (λ is. ne (sym is), w.unsent); unsaid = w.unsaid }, ne)

  fate_sent : (act : ℕ) → (n : ℕ) × AllByRecursion (λ x. x.act ≡ act → IsAtOr p.told d n x) p.sent
      → (n : ℕ) × AllByRecursion (λ x. x.act ≡ act → IsAtOr p.told d n x) (sending ∷ p.sent)
  fate_sent act old = by_case (o.act == act) refl
    where
      by_case : (b : Bool) → (o.act == act) ≡ b → (n : ℕ) × AllByRecursion (λ x. x.act ≡ act → IsAtOr p.told d n x) (sending ∷ p.sent)
      by_case true same =
          (o.number, (λ is. inl refl, subst (λ a. AllByRecursion (λ x. x.act ≡ a → IsAtOr p.told d o.number x) p.sent) (eqb-true o.act act same) r.last))
      by_case false other = (old.0, (λ is. absurd (true≢false (sym (eq-eqb o.act act is) ∙ other)), old.1))

  reason_sent : (s : Shown) (outcome : Outcome) → (outcome ≡ NotDone → s.act ≢ o.act) → HasReason d p s outcome → HasReason d (with_sent p sending) s outcome
  reason_sent s Done ne h = record { reply = h.reply; is = h.is; own = h.own; kind_is = h.kind_is; told = h.told; sent = (h.sent.0, in_tail sending p.sent h.sent.0 h.sent.1, h.sent.2, h.sent.3) }
  reason_sent s Was_refused ne h = record { reply = h.reply; is = h.is; own = h.own; kind_is = h.kind_is; told = h.told; sent = (h.sent.0, in_tail sending p.sent h.sent.0 h.sent.1, h.sent.2, h.sent.3) }
  reason_sent s NotDone ne h = (λ is. absurd (ne refl (sym is)), h)
  reason_sent s GivenUp ne h = tt

  pub history_sent : History acts first d p → History acts first d (with_sent p sending)
  history_sent h = record {
    named = (r.named, h.named);
    requests = (refl, h.requests);
    low = (r.low, h.low);
    one = (
      (λ is. refl, all_weaker (λ y. y.request.number ≡ o.number → y.act ≡ o.act) (λ y. o.number ≡ y.request.number → o.act ≡ y.act) (λ y f is. sym (f (sym is))) p.sent r.own),
      all_by_each (λ x. AllByRecursion (λ y. x.request.number ≡ y.request.number → x.act ≡ y.act) (sending ∷ p.sent)) p.sent (λ x c. (
        contained (λ y. y.request.number ≡ o.number → y.act ≡ o.act) p.sent x r.own c,
        contained (λ y. AllByRecursion (λ z. y.request.number ≡ z.request.number → y.act ≡ z.act) p.sent) p.sent x h.one c,
      )),
    );
    fate = λ act. fate_sent act (h.fate act);
    shown_named = h.shown_named;
    shown = all_by_each (λ s. HasReason d (with_sent p sending) s s.outcome) p.shown (λ s c.
        reason_sent s s.outcome (contained (λ t. t.outcome ≡ NotDone → t.act ≢ o.act) p.shown s r.unsaid c) (contained (λ t. HasReason d p t t.outcome) p.shown s h.shown c));
  }

  pub fits_sent : (j : Journal) → Fits first d p j → j.next ≡ next → j.request ≡ Some o → Fits first d (with_sent p sending) j
  fits_sent j h same is = record {
    low = h.low;
    below = (omega (arith, r.counted, same), h.below);
    request = subst (RequestFits first d (with_sent p sending) j.next) (sym is) (subst (λ n. OpenFits first d (with_sent p sending) n o) (sym same) open_sent);
  }

-- ---- one thing more is shown
abbrev pub with_shown : Past → Shown → Past
with_shown p s = record p { shown = s ∷ p.shown }

module _ (first d : ℕ) (p : Past) (s : Shown) where
  pub history_shown : (acts : ℕ → ℕ → Act) → History acts first d p → Contains p.asked s.act → HasReason d p s s.outcome → History acts first d (with_shown p s)
  history_shown acts h named reason = record {
    named = h.named;
    requests = h.requests;
    low = h.low;
    one = h.one;
    fate = h.fate;
    shown_named = (named, h.shown_named);
    shown = (reason_shown s s.outcome reason, all_weaker (λ t. HasReason d p t t.outcome) (λ t. HasReason d (with_shown p s) t t.outcome) (λ t r. reason_shown t t.outcome r) p.shown h.shown);
  }
    where
      reason_shown : (t : Shown) (outcome : Outcome) → HasReason d p t outcome → HasReason d (with_shown p s) t outcome
      reason_shown t Done h = record { reply = h.reply; is = h.is; own = h.own; kind_is = h.kind_is; told = h.told; sent = h.sent }
      reason_shown t Was_refused h = record { reply = h.reply; is = h.is; own = h.own; kind_is = h.kind_is; told = h.told; sent = h.sent }
      reason_shown t NotDone h = h
      reason_shown t GivenUp h = tt

  -- a reply
  request_shown : (s.outcome ≢ NotDone) → (next : ℕ) (o : Option Open) → RequestFits first d p next o → RequestFits first d (with_shown p s) next o
  request_shown ne next None h = tt
  request_shown ne next (Some o) h = record {
    named = h.named;
    low = h.low;
    counted = h.counted;
    steps = h.steps;
    own = h.own;
    last = h.last;
    unsent = h.unsent;
    unsaid = (λ is. absurd (ne is), h.unsaid);
    follower = of_follower o.follower h.follower;
  }
    where
      of_follower : (f : Option ℕ) → IfSome f (λ g. IsWaiting p g × (g ≢ o.act)) → IfSome f (λ g. IsWaiting (with_shown p s) g × (g ≢ o.act))
      of_follower None h = h
      of_follower (Some f) (w, other) = (record { named = w.named; unsent = w.unsent; unsaid = (λ is. absurd (ne is), w.unsaid) }, other)

  pub fits_shown : (j : Journal) → Fits first d p j → s.outcome ≢ NotDone → Fits first d (with_shown p s) j
  fits_shown j h ne = record { low = h.low; below = h.below; request = request_shown ne j.next j.request h.request }

  -- once the request was dropped
  pub dropped_shown : (j : Journal) → Fits first d p j → j.request ≡ None → Fits first d (with_shown p s) j
  dropped_shown j h none = record { low = h.low; below = h.below; request = subst (RequestFits first d (with_shown p s) j.next) (sym none) tt }
