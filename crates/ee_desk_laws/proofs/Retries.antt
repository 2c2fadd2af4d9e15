-- Retries after stops.
use Rattle.std.proofs.Common.{◌≡◌, inl, inr, zero, suc, ◌<◌, ◌≤◌, Bool, true, false, cond, ◌||◌, List, [], ◌∷◌, ◌++◌, map, length, true≢false, arith, refl, sym, ap, ◌∙◌, subst}
use Rattle.std.specs.List.{AllByRecursion, Contains, count_by, filter, list_any}
use Rattle.std.proofs.lemmas.List.Sums.{length-filter}
use Rattle.std.specs.FinMap as finite
use Rattle.std.proofs.Math.Bool.{or-true, or-false}
use Rattle.ee_desk_model.specs.declared.acts.Request.{Request}
use Rattle.ee_desk_model.specs.Numbers.{RequestKey, same_number, number_of}
use Rattle.ee_desk_model.proofs.Lemmas.Maps.{same_number-is, same_number-self, all_weaker}
use Rattle.ee_desk_model.specs.Repeats.{Content, firsts, once}
use Rattle.ee_desk_model.specs.Contents.{content_after}
use Rattle.ee_desk_model.specs.Answers.{answer, is_of}
use Rattle.ee_desk_laws.specs.Events.{Event, World, begun, one, may_after, decided, unserved, stopped, Happens}
use Rattle.ee_desk_laws.specs.Stops.{CanHappen, LeadsOn, sent, acknowledged, AreDone, StillTold, StandOnce, HoldsAcknowledged, SettlesByRetries}
use Rattle.ee_desk_laws.specs.Events.Event.{Deliver, Lose, Unserved, Stop_within, Stop_between, Reopen}
use Rattle.ee_desk_laws.proofs.Elements.{at_head, in_tail}
use Rattle.ee_desk_laws.proofs.Survival.{survives}

abbrev Holds : List Request → List Request → List Request → Type 0
Holds done told asked = AllByRecursion (Contains done) told × AllByRecursion (Contains asked) done

holds_more : (q : Request) (done told asked : List Request) → Holds done told asked → Holds (q ∷ done) told (q ∷ asked)
holds_more q done told asked h = (all_weaker _ _ (in_tail q done) told h.0, (at_head q asked, all_weaker _ _ (in_tail q asked) done h.1))

pub acknowledged_done : HoldsAcknowledged
acknowledged_done [] done h = (tt, subst (AllByRecursion (Contains [])) (sym h) tt)
acknowledged_done (Deliver q ∷ events) done (rest, is, h) =
    let m = holds_more q rest (acknowledged events) (sent events) (acknowledged_done events rest h) in
    subst (λ d. Holds d (q ∷ acknowledged events) (q ∷ sent events)) (sym is) ((at_head q rest, m.0), m.1)
acknowledged_done (Lose q ∷ events) done (rest, is, h) =
    subst (λ d. Holds d (acknowledged events) (q ∷ sent events)) (sym is) (holds_more q rest (acknowledged events) (sent events) (acknowledged_done events rest h))
acknowledged_done (Unserved q ∷ events) done (inl (rest, is, h)) =
    subst (λ d. Holds d (acknowledged events) (q ∷ sent events)) (sym is) (holds_more q rest (acknowledged events) (sent events) (acknowledged_done events rest h))
acknowledged_done (Unserved q ∷ events) done (inr h) =
    let m = acknowledged_done events done h in (m.0, all_weaker _ _ (in_tail q (sent events)) done m.1)
acknowledged_done (Stop_within q ∷ events) done (inl (rest, is, h)) =
    subst (λ d. Holds d (acknowledged events) (q ∷ sent events)) (sym is) (holds_more q rest (acknowledged events) (sent events) (acknowledged_done events rest h))
acknowledged_done (Stop_within q ∷ events) done (inr h) =
    let m = acknowledged_done events done h in (m.0, all_weaker _ _ (in_tail q (sent events)) done m.1)
acknowledged_done (Stop_between ∷ events) done h = acknowledged_done events done h
acknowledged_done (Reopen ∷ events) done h = acknowledged_done events done h

delivered : (again done : List Request) → AreDone (map Deliver again) done → done ≡ again
delivered [] done h = h
delivered (q ∷ again) done (rest, is, h) = is ∙ ap (λ r. q ∷ r) (delivered again rest h)

-- what is delivered last stands last
split : (events : List Event) (again all : List Request) → AreDone (events ++ map Deliver again) all → (done : List Request) × AreDone events done × (all ≡ done ++ again)
split [] again all h = ([], refl, delivered again all h)
split (Deliver q ∷ events) again all (rest, is, h) =
    let s = split events again rest h in (q ∷ s.0, (s.0, refl, s.1), is ∙ ap (λ r. q ∷ r) s.2)
split (Lose q ∷ events) again all (rest, is, h) =
    let s = split events again rest h in (q ∷ s.0, (s.0, refl, s.1), is ∙ ap (λ r. q ∷ r) s.2)
split (Unserved q ∷ events) again all (inl (rest, is, h)) =
    let s = split events again rest h in (q ∷ s.0, inl (s.0, refl, s.1), is ∙ ap (λ r. q ∷ r) s.2)
split (Unserved q ∷ events) again all (inr h) = let s = split events again all h in (s.0, inr s.1, s.2)
split (Stop_within q ∷ events) again all (inl (rest, is, h)) =
    let s = split events again rest h in (q ∷ s.0, inl (s.0, refl, s.1), is ∙ ap (λ r. q ∷ r) s.2)
split (Stop_within q ∷ events) again all (inr h) = let s = split events again all h in (s.0, inr s.1, s.2)
split (Stop_between ∷ events) again all h = split events again all h
split (Reopen ∷ events) again all h = split events again all h

-- the requests of a number that stand after one
abbrev later : (RequestKey → Bool) → RequestKey → Request → List Request → List Request
later known n q all = filter (is_of n) (firsts (λ m. known m || same_number m (number_of q)) all)

abbrev IsOne : List Request → Type 0
IsOne xs = (x : Request) × (xs ≡ x ∷ [])

-- a known number stands no more
stands_no_more : (known : RequestKey → Bool) (n : RequestKey) (all : List Request) → known n ≡ true → filter (is_of n) (firsts known all) ≡ []
stands_no_more known n [] h = refl
stands_no_more known n (q ∷ all) h =
    by_case (known (number_of q)) (same_number n (number_of q)) refl refl (stands_no_more known n all h)
    (stands_no_more (λ m. known m || same_number m (number_of q)) n all (ap (λ b. b || same_number n (number_of q)) h))
  where
    by_case : (b c : Bool) → known (number_of q) ≡ b → same_number n (number_of q) ≡ c → filter (is_of n) (firsts known all) ≡ [] → later known n q all ≡ []
        → filter (is_of n) (cond b (firsts known all) (q ∷ firsts (λ m. known m || same_number m (number_of q)) all)) ≡ []
    by_case true c e same skip none = skip
    by_case false true e same skip none = absurd (true≢false (sym h ∙ ap known (same_number-is n (number_of q) same) ∙ e))
    by_case false false e apart skip none = ap (λ c. cond c (q ∷ later known n q all) (later known n q all)) apart ∙ none

-- a new number stands once
stands_once : (known : RequestKey → Bool) (n : RequestKey) (all : List Request) → known n ≡ false → list_any (is_of n) all ≡ true → IsOne (filter (is_of n) (firsts known all))
stands_once known n [] new h = absurd (true≢false (sym h))
stands_once known n (q ∷ all) new h =
    by_case (known (number_of q)) (same_number n (number_of q)) refl refl (stands_once known n all new)
    (stands_once (λ m. known m || same_number m (number_of q)) n all) (stands_no_more (λ m. known m || same_number m (number_of q)) n all)
  where
    by_case : (b c : Bool) → known (number_of q) ≡ b → same_number n (number_of q) ≡ c
        → (list_any (is_of n) all ≡ true → IsOne (filter (is_of n) (firsts known all)))
        → ((known n || same_number n (number_of q)) ≡ false → list_any (is_of n) all ≡ true → IsOne (later known n q all))
        → ((known n || same_number n (number_of q)) ≡ true → later known n q all ≡ [])
        → IsOne (filter (is_of n) (cond b (firsts known all) (q ∷ firsts (λ m. known m || same_number m (number_of q)) all)))
    by_case true true e same skip more none = absurd (true≢false (sym e ∙ ap known (sym (same_number-is n (number_of q) same)) ∙ new))
    by_case true false e apart skip more none = skip (sym (ap (λ c. c || list_any (is_of n) all) apart) ∙ h)
    by_case false true e same skip more none =
        (q, ap (λ c. cond c (q ∷ later known n q all) (later known n q all)) same ∙ ap (λ l. q ∷ l) (none (ap (λ c. known n || c) same ∙ or-true (known n))))
    by_case false false e apart skip more none =
        let m = more (ap (λ c. known n || c) apart ∙ or-false (known n) ∙ new) (sym (ap (λ c. c || list_any (is_of n) all) apart) ∙ h) in
        (m.0, ap (λ c. cond c (q ∷ later known n q all) (later known n q all)) apart ∙ m.1)

counted : (n : RequestKey) (xs : List Request) → IsOne (filter (is_of n) xs) → count_by (is_of n) xs ≡ 1
counted n xs h = sym (length-filter (is_of n) xs) ∙ ap (λ (l : List Request). length l) h.1

abbrev IsOneAtMost : List Request → Type 0
IsOneAtMost xs = length xs ≤ 1

-- a number stands once at most
stands_at_most_once : (known : RequestKey → Bool) (n : RequestKey) (all : List Request) → IsOneAtMost (filter (is_of n) (firsts known all))
stands_at_most_once known n [] = omega arith
stands_at_most_once known n (q ∷ all) =
    by_case (known (number_of q)) (same_number n (number_of q)) refl (stands_at_most_once known n all)
    (stands_at_most_once (λ m. known m || same_number m (number_of q)) n all) (stands_no_more (λ m. known m || same_number m (number_of q)) n all)
  where
    by_case : (b c : Bool) → same_number n (number_of q) ≡ c → IsOneAtMost (filter (is_of n) (firsts known all)) → IsOneAtMost (later known n q all)
        → ((known n || same_number n (number_of q)) ≡ true → later known n q all ≡ [])
        → IsOneAtMost (filter (is_of n) (cond b (firsts known all) (q ∷ firsts (λ m. known m || same_number m (number_of q)) all)))
    by_case true c is skip more none = skip
    by_case false true same skip more none =
        subst (λ c. IsOneAtMost (cond c (q ∷ later known n q all) (later known n q all))) (sym same)
        (subst (λ l. IsOneAtMost (q ∷ l)) (sym (none (ap (λ c. known n || c) same ∙ or-true (known n)))) (omega arith))
    by_case false false apart skip more none =
        subst (λ c. IsOneAtMost (cond c (q ∷ later known n q all) (later known n q all))) (sym apart) more

pub decided_at_most_once : (start : Content) (all : List Request) (n : RequestKey) → count_by (is_of n) (once start all) ≤ 1
decided_at_most_once start all n =
    subst (λ k. k ≤ 1) (length-filter (is_of n) (once start all)) (stands_at_most_once (λ m. finite.contains_key start.kept m) n all)

any_append : (n : RequestKey) (xs ys : List Request) → list_any (is_of n) ys ≡ true → list_any (is_of n) (xs ++ ys) ≡ true
any_append n [] ys h = h
any_append n (x ∷ xs) ys h = ap (λ b. is_of n x || b) (any_append n xs ys h) ∙ or-true (is_of n x)

any_of : (q : Request) (xs : List Request) → Contains xs q → list_any (is_of (number_of q)) xs ≡ true
any_of q [] c = absurd (omega (arith, c.1))
any_of q (x ∷ xs) (zero, below, is) = ap (λ b. b || list_any (is_of (number_of q)) xs) (ap (λ (r : Request). same_number (number_of q) (number_of r)) is ∙ same_number-self (number_of q))
any_of q (x ∷ xs) (suc k, below, is) = ap (λ b. is_of (number_of q) x || b) (any_of q xs (k, omega (arith, below), is)) ∙ or-true (is_of (number_of q) x)

pub decided_once : (start : Content) (all : List Request) (q : Request) → finite.contains_key start.kept (number_of q) ≡ false → Contains all q
    → count_by (is_of (number_of q)) (once start all) ≡ 1
decided_once start all q new c =
    counted (number_of q) (once start all) (stands_once (λ n. finite.contains_key start.kept n) (number_of q) all new (any_of q all c))

stand_once : (start : Content) (done again asked : List Request) → AllByRecursion (Contains again) asked → StandOnce start (done ++ again) asked
stand_once start done again [] h = tt
stand_once start done again (q ∷ asked) h =
    (λ new. counted (number_of q) (once start (done ++ again)) (stands_once (λ n. finite.contains_key start.kept n) (number_of q) (done ++ again) new (any_append (number_of q) done again (any_of q again h.0))), stand_once start done again asked h.1)

pub settles : SettlesByRetries
settles start events again w asked h =
    let c = (survives start (events ++ map Deliver again) w h).content in
    let s = split events again c.0 c.1 in (
      s.0,
      record {
        requests = s.1;
        content = c.2 ∙ ap (content_after start) s.2;
        once = stand_once start s.0 again (sent events) asked;
        told = subst (λ d. StillTold start d w.told) s.2 c.3;
      },
    )

-- ---- each list of events in its order leads somewhere
first_of_may : (may : List Content) → 0 < length may → (c : Content) × Contains may c
first_of_may [] h = absurd (omega arith)
first_of_may (c ∷ may) h = (c, at_head c may)

still_some : (w : World) (q : Request) → 0 < length w.may → 0 < length (may_after w q)
still_some w q some = by_case (finite.contains_key w.now.kept (number_of q))
  where
    by_case : (b : Bool) → 0 < length (cond b w.may (one w.now q ∷ []))
    by_case true = some
    by_case false = omega arith

goes_on : (events : List Event) (w : World) → 0 < length w.may → CanHappen w.up events → (v : World) × Happens w events v
goes_on [] w some h = (w, refl)
goes_on (Deliver q ∷ events) w some h =
    let u = decided w q (record { request = q; reply = answer w.now [] q } ∷ w.told) in
    let r = goes_on events u (still_some w q some) h.1 in (r.0, (u, (h.0, refl), r.1))
goes_on (Lose q ∷ events) w some h = let r = goes_on events (decided w q w.told) (still_some w q some) h.1 in (r.0, (decided w q w.told, (h.0, refl), r.1))
goes_on (Unserved q ∷ events) w some h =
    let r = goes_on events (unserved w q) (omega arith) (subst (λ b. CanHappen b events) (sym h.0) h.1) in (r.0, (unserved w q, (h.0, refl), r.1))
goes_on (Stop_within q ∷ events) w some h =
    let r = goes_on events (stopped w (one w.now q)) (omega arith) h.1 in (r.0, (stopped w (one w.now q), (h.0, one w.now q, at_head (one w.now q) w.may, refl), r.1))
goes_on (Stop_between ∷ events) w some h =
    let c = first_of_may w.may some in
    let r = goes_on events (stopped w c.0) (omega arith) h in (r.0, (stopped w c.0, (c.0, c.1, refl), r.1))
goes_on (Reopen ∷ events) w some h = let r = goes_on events (record w { up = true }) some h.1 in (r.0, (record w { up = true }, (h.0, refl), r.1))

pub leads_on : LeadsOn
leads_on start events h = goes_on events (begun start) (omega arith) h
