-- The tickets of days, counted one after the other.
use Rattle.std.proofs.Common.{◌≡◌, ℕ, ◌+◌, ◌<◌, ◌≤◌, ◌==◌, eqb, Bool, true, false, cond, ◌||◌, List, [], ◌∷◌, ◌++◌, length, take, get_or, Option, Some, None, true≢false, arith, refl, sym, ap, ◌∙◌, subst, append-nil}
use Rattle.std.specs.Prelude.{count_by}
use Rattle.std.specs.Option.{option_map, IfSome, IsSome}
use Rattle.std.specs.List.{AllByRecursion, list_any, sum_by}
use Rattle.std.proofs.lemmas.Bool.{eqb-true, eq-eqb, false_from_ne_true}
use Rattle.std.proofs.lemmas.List.Elements.{filter-append}
use Rattle.std.proofs.lemmas.List.Folds.{list_any-append}
use Rattle.std.proofs.lemmas.List.Sums.{sum_by_push, sum_by-take-le, length-filter}
use Rattle.std.proofs.lemmas.List.{length_push}
use Rattle.std.specs.BTreeMap.{is_at}
use Rattle.std.specs.Ordering.{nat_cmp}
use Rattle.std.specs.Cmp.{unsigned_tied}
use Rattle.std.proofs.Math.Bool.{or-false}
use Rattle.ee_desk_model.specs.declared.replies.Ticket.{Ticket}
use Rattle.ee_desk_model.specs.PlainBooks.{of_day, bonds_on, total_of}
use Rattle.ee_desk_decide.specs.declared.views.DayCounts.{DayCounts}
use Rattle.ee_desk_model.proofs.Lemmas.Maps.{all_append, all_filter, sum_by_le}
use Rattle.ee_desk_soundness.specs.Inner.Days.{counts_at, counts_on, no_counts, counted, AreNothing, AreCounted, HasMore, IsSmall, HasSpace, HasRoom, FitCounts, FitDays}
use Rattle.ee_desk_soundness.proofs.Walks.{taken_is, all_at, all_taken}

abbrev Counts : Type 0
Counts = List (ℕ × DayCounts)

pub eqb_turned : (a b : ℕ) → eqb a b ≡ eqb b a
eqb_turned a b = by_case (eqb a b) refl
  where
    by_case : (t : Bool) → eqb a b ≡ t → eqb a b ≡ eqb b a
    by_case true e = e ∙ sym (eq-eqb b a (sym (eqb-true a b e)))
    by_case false e = e ∙ sym (false_from_ne_true (eqb b a) (λ f. absurd (true≢false (sym (eq-eqb a b (sym (eqb-true b a f))) ∙ e))))

-- ---- days begun
either : {A : Type 0} (a b : Bool) (x y : A) → cond (a || b) x y ≡ cond b x (cond a x y)
either true true x y = refl
either true false x y = refl
either false b x y = refl

-- with more days begun, both are
pub begun : (es fs : Counts) (days more : List ℕ) → AreNothing es days → HasMore es fs more → AreNothing fs (days ++ more)
begun es fs days more old new q =
    new q ∙ ap (cond (list_any (λ d. q == d) more) (Some no_counts)) (old q)
    ∙ sym (ap (λ b. cond b (Some no_counts) None) (list_any-append (λ d. q == d) days more) ∙ either (list_any (λ d. q == d) days) (list_any (λ d. q == d) more) (Some no_counts) None)

-- a day more
pub day_begun : (es fs : Counts) (day : ℕ) (c : DayCounts) → c ≡ no_counts → ((q : ℕ) → counts_at fs q ≡ cond (is_at (nat_cmp day) q) (Some c) (counts_at es q)) → HasMore es fs (day ∷ [])
day_begun es fs day c none new q =
    new q ∙ (λ i. cond (is_at (nat_cmp day) q) (Some (none i)) (counts_at es q))
    ∙ ap (λ b. cond b (Some no_counts) (counts_at es q)) (unsigned_tied day q ∙ eqb_turned day q ∙ sym (or-false (q == day)))

-- ---- one ticket more
day_push : (q : ℕ) (tickets : List Ticket) (t : Ticket) (b : Bool) → eqb t.day q ≡ b → of_day q (tickets ++ t ∷ []) ≡ of_day q tickets ++ cond b (t ∷ []) []
day_push q tickets t b e = filter-append (λ u. eqb u.day q) tickets (t ∷ []) ∙ ap (λ c. of_day q tickets ++ cond c (t ∷ []) []) e

abbrev sums_of : List Ticket → DayCounts
sums_of own = record { tickets = length own; bonds = sum_by bonds_on own; total = record { 0 = sum_by total_of own } }

three : (a b c d e f : ℕ) → a ≡ b → c ≡ d → e ≡ f → ◌≡◌ {A = DayCounts} (record { tickets = a; bonds = c; total = record { 0 = e } }) (record { tickets = b; bonds = d; total = record { 0 = f } })
three a b c d e f x y z = λ i. record { tickets = x i; bonds = y i; total = record { 0 = z i } }

counts_push : (q : ℕ) (tickets : List Ticket) (t : Ticket) → counted (q == t.day) t (counts_on tickets q) ≡ counts_on (tickets ++ t ∷ []) q
counts_push q tickets t = ap (λ b. counted b t (counts_on tickets q)) (eqb_turned q t.day) ∙ by_case (eqb t.day q) refl
  where
    by_case : (b : Bool) → eqb t.day q ≡ b → counted b t (counts_on tickets q) ≡ counts_on (tickets ++ t ∷ []) q
    by_case true e =
        three _ _ _ _ _ _ (sym (length_push (of_day q tickets) t)) (sym (sum_by_push bonds_on (of_day q tickets) t)) (sym (sum_by_push total_of (of_day q tickets) t))
        ∙ sym (ap sums_of (day_push q tickets t true e))
    by_case false e = sym (ap sums_of (day_push q tickets t false e ∙ append-nil (of_day q tickets)))

-- counts in memory, with a ticket more
pub counts_more : (start es fs : Counts) (tickets : List Ticket) (i : ℕ) (t : Ticket) → i < length tickets → t ≡ get_or tickets i t
    → ((q : ℕ) → counts_at es q ≡ option_map (λ _. counts_on (take i tickets) q) (counts_at start q))
    → ((q : ℕ) → counts_at fs q ≡ option_map (counted (q == t.day) t) (counts_at es q))
    → (q : ℕ) → counts_at fs q ≡ option_map (λ _. counts_on (take (i + 1) tickets) q) (counts_at start q)
counts_more start es fs tickets i t h is old new q =
    new q ∙ ap (option_map (counted (q == t.day) t)) (old q) ∙ by_case (counts_at start q)
  where
    by_case : (o : Option DayCounts) → option_map (counted (q == t.day) t) (option_map (λ _. counts_on (take i tickets) q) o) ≡ option_map (λ _. counts_on (take (i + 1) tickets) q) o
    by_case None = refl
    by_case (Some own) = ap Some (counts_push q (take i tickets) t ∙ ap (λ ts. counts_on ts q) (sym (taken_is tickets i t h is)))

-- the counts of one day, with a ticket more of it
count_case : (es fs : Counts) (t : Ticket) (c d : DayCounts) (q : ℕ) (b : Bool) → counts_at es t.day ≡ Some c → d ≡ counted true t c → eqb q t.day ≡ b
    → counts_at fs q ≡ cond b (Some d) (counts_at es q) → counts_at fs q ≡ option_map (counted b t) (counts_at es q)
count_case es fs t c d q true at is same new = new ∙ ap Some is ∙ ap (option_map (counted true t)) (sym (ap (counts_at es) (eqb-true q t.day same) ∙ at))
count_case es fs t c d q false at is same new = new ∙ sym (uncounted (counts_at es q))
  where
    uncounted : (o : Option DayCounts) → option_map (counted false t) o ≡ o
    uncounted None = refl
    uncounted (Some x) = refl

pub count_one : (es fs : Counts) (t : Ticket) (c d : DayCounts) → counts_at es t.day ≡ Some c → d ≡ counted true t c
    → ((q : ℕ) → counts_at fs q ≡ cond (is_at (nat_cmp t.day) q) (Some d) (counts_at es q))
    → (q : ℕ) → counts_at fs q ≡ option_map (counted (q == t.day) t) (counts_at es q)
count_one es fs t c d at is new q = count_case es fs t c d q (eqb q t.day) at is refl
    (new q ∙ ap (λ b. cond b (Some d) (counts_at es q)) (unsigned_tied t.day q ∙ eqb_turned t.day q))

-- ---- room
abbrev on : ℕ → Ticket → ℕ
on q t = cond (eqb t.day q) 1 0

count_is : (q : ℕ) (tickets : List Ticket) → length (of_day q tickets) ≡ count_by (λ t. t.day == q) tickets
count_is q tickets = length-filter (λ t. eqb t.day q) tickets

-- a day that has room has fewer than 1,000 so far
roomy : (start es : Counts) (so_far : List Ticket) (day : ℕ) → counts_at es day ≡ option_map (λ _. counts_on so_far day) (counts_at start day)
    → HasRoom (counts_at es day) → IsSome (counts_at start day) × (length (of_day day so_far) < 1000)
roomy start es so_far day is room = by_case (counts_at start day) (subst HasRoom is room)
  where
    by_case : (o : Option DayCounts) → HasRoom (option_map (λ _. counts_on so_far day) o) → IsSome o × (length (of_day day so_far) < 1000)
    by_case None r = absurd r
    by_case (Some own) r = (refl, r)

pub known_day : (start es : Counts) (so_far : List Ticket) (day : ℕ) → counts_at es day ≡ option_map (λ _. counts_on so_far day) (counts_at start day)
    → HasRoom (counts_at es day) → IsSome (counts_at start day)
known_day start es so_far day is room = (roomy start es so_far day is room).0

pub known_more : (start es : Counts) (tickets : List Ticket) (i : ℕ) (t : Ticket) → i < length tickets → t ≡ get_or tickets i t
    → ((q : ℕ) → counts_at es q ≡ option_map (λ _. counts_on (take i tickets) q) (counts_at start q)) → HasRoom (counts_at es t.day)
    → AllByRecursion (λ u. IsSome (counts_at start u.day)) (take i tickets) → AllByRecursion (λ u. IsSome (counts_at start u.day)) (take (i + 1) tickets)
known_more start es tickets i t h is are room all =
    subst (AllByRecursion (λ (u : Ticket). IsSome (counts_at start u.day))) (sym (taken_is tickets i t h is))
    (all_append (λ (u : Ticket). IsSome (counts_at start u.day)) (take i tickets) (t ∷ []) all (known_day start es (take i tickets) t.day (are t.day) room, tt))

pub few_more : (start es : Counts) (tickets : List Ticket) (i : ℕ) (t : Ticket) → i < length tickets → t ≡ get_or tickets i t
    → ((q : ℕ) → counts_at es q ≡ option_map (λ _. counts_on (take i tickets) q) (counts_at start q)) → HasRoom (counts_at es t.day)
    → ((day : ℕ) → count_by (λ u. u.day == day) (take i tickets) ≤ 1000) → (day : ℕ) → count_by (λ u. u.day == day) (take (i + 1) tickets) ≤ 1000
few_more start es tickets i t h is are room few day =
    subst (λ ts. count_by (λ u. u.day == day) ts ≤ 1000) (sym (taken_is tickets i t h is)) (by_case (eqb t.day day) refl)
  where
    push : count_by (λ u. u.day == day) (take i tickets ++ t ∷ []) ≡ count_by (λ u. u.day == day) (take i tickets) + on day t
    push = sum_by_push (on day) (take i tickets) t

    by_case : (b : Bool) → eqb t.day day ≡ b → count_by (λ u. u.day == day) (take i tickets ++ t ∷ []) ≤ 1000
    by_case true e =
        let r = roomy start es (take i tickets) t.day (are t.day) room in
        let below = subst (λ d. length (of_day d (take i tickets)) < 1000) (eqb-true t.day day e) r.1 in
        let same = count_is day (take i tickets) in
        let one : on day t ≡ 1 = ap (λ b. cond b 1 0) e in omega (arith, push, below, same, one)
    by_case false e =
        let old = few day in
        let none : on day t ≡ 0 = ap (λ b. cond b 1 0) e in omega (arith, push, old, none)

-- a ticket of a day without room fits nowhere
pub no_room : (start es : Counts) (tickets : List Ticket) (i : ℕ) (t : Ticket) → i < length tickets → t ≡ get_or tickets i t
    → ((q : ℕ) → counts_at es q ≡ option_map (λ _. counts_on (take i tickets) q) (counts_at start q)) → (HasRoom (counts_at es t.day) → ⊥) → FitCounts start tickets → ⊥
no_room start es tickets i t h is are full fit = by_case (counts_at start t.day) refl (all_at (λ u. IsSome (counts_at start u.day)) tickets i t fit.0 h is)
  where
    push : count_by (λ u. u.day == t.day) (take (i + 1) tickets) ≡ count_by (λ u. u.day == t.day) (take i tickets) + on t.day t
    push = ap (count_by (λ u. u.day == t.day)) (taken_is tickets i t h is) ∙ sum_by_push (on t.day) (take i tickets) t

    by_case : (o : Option DayCounts) → counts_at start t.day ≡ o → IsSome o → ⊥
    by_case None e some = true≢false (sym some)
    by_case (Some own) e some =
        let now : counts_at es t.day ≡ Some (counts_on (take i tickets) t.day) = are t.day ∙ ap (option_map (λ _. counts_on (take i tickets) t.day)) e in
        let over : length (of_day t.day (take i tickets)) < 1000 → ⊥ = λ r. full (subst HasRoom (sym now) r) in
        let same = count_is t.day (take i tickets) in
        let most = fit.1 t.day in
        let part : count_by (λ u. u.day == t.day) (take (i + 1) tickets) ≤ count_by (λ u. u.day == t.day) tickets = sum_by-take-le (on t.day) tickets (i + 1) in
        let one : on t.day t ≡ 1 = ap (λ b. cond b 1 0) (eq-eqb t.day t.day refl) in
        over (omega (arith, push, same, most, part, one))

-- ---- space
few_lines : (tickets : List Ticket) → AllByRecursion IsSmall tickets → AllByRecursion (λ t. bonds_on t ≤ 100) tickets
few_lines [] h = tt
few_lines (t ∷ tickets) h = (h.0.0, few_lines tickets h.1)

small_totals : (tickets : List Ticket) → AllByRecursion IsSmall tickets → AllByRecursion (λ t. total_of t ≤ 30449360000) tickets
small_totals [] h = tt
small_totals (t ∷ tickets) h = (h.0.1, small_totals tickets h.1)

-- there is space for a small ticket more
space_in : (t : Ticket) (own : List Ticket) (c : DayCounts) → AllByRecursion IsSmall own → IsSmall t → c ≡ sums_of own → c.tickets < 1000 → HasSpace t c
space_in t own c small here now r =
    let a = ap (λ (x : DayCounts). x.tickets) now in
    let b = ap (λ (x : DayCounts). x.bonds) now in
    let d = ap (λ (x : DayCounts). x.total.0) now in
    let bonds = sum_by_le bonds_on 100 own (few_lines own small) in
    let total = sum_by_le total_of 30449360000 own (small_totals own small) in
    let lines = here.0 in
    let sum = here.1 in
    (r, omega (arith, a, b, bonds, lines, r), omega (arith, a, d, total, sum, r))

space_at : (t : Ticket) (so_far : List Ticket) (o s : Option DayCounts) → AllByRecursion IsSmall (of_day t.day so_far) → IsSmall t
    → o ≡ option_map (λ _. counts_on so_far t.day) s → HasRoom o → IfSome o (HasSpace t)
space_at t so_far None s small here e r = absurd r
space_at t so_far (Some c) None small here e r = absurd (cc)
space_at t so_far (Some c) (Some z) small here e r = let now : c ≡ counts_on so_far t.day = cc in space_in t (of_day t.day so_far) c small here now r

pub space : (start es : Counts) (tickets : List Ticket) (i : ℕ) (t : Ticket) → AllByRecursion IsSmall tickets → i < length tickets → t ≡ get_or tickets i t
    → ((q : ℕ) → counts_at es q ≡ option_map (λ _. counts_on (take i tickets) q) (counts_at start q)) → HasRoom (counts_at es t.day) → IfSome (counts_at es t.day) (HasSpace t)
space start es tickets i t small h is are room =
    space_at t (take i tickets) (counts_at es t.day) (counts_at start t.day)
    (all_filter IsSmall (λ u. eqb u.day t.day) (take i tickets) (all_taken IsSmall tickets i small)) (all_at IsSmall tickets i t small h is) (are t.day) room

-- ---- the days that have counts
some_if : (b : Bool) → IsSome (cond b (Some no_counts) None) → b ≡ true
some_if true h = refl
some_if false h = absurd (true≢false (sym h))

if_some : (b : Bool) → b ≡ true → IsSome (cond b (Some no_counts) None)
if_some true h = refl
if_some false h = absurd (true≢false (sym h))

pub nothing_at : (es : Counts) (days : List ℕ) → AreNothing es days → (q : ℕ) → IfSome (counts_at es q) (λ own. own ≡ no_counts)
nothing_at es days are q = subst (λ o. IfSome o (λ own. own ≡ no_counts)) (sym (are q)) (by_case (list_any (λ d. q == d) days))
  where
    by_case : (b : Bool) → IfSome (cond b (Some no_counts) None) (λ own. own ≡ no_counts)
    by_case true = refl
    by_case false = tt

dated_on : (es : Counts) (days : List ℕ) (tickets : List Ticket) → AreNothing es days → AllByRecursion (λ t. IsSome (counts_at es t.day)) tickets → AllByRecursion (λ t. list_any (λ day. t.day == day) days ≡ true) tickets
dated_on es days [] are h = tt
dated_on es days (t ∷ tickets) are h = (some_if _ (subst IsSome (are t.day) h.0), dated_on es days tickets are h.1)

dated_back : (es : Counts) (days : List ℕ) (tickets : List Ticket) → AreNothing es days → AllByRecursion (λ t. list_any (λ day. t.day == day) days ≡ true) tickets → AllByRecursion (λ t. IsSome (counts_at es t.day)) tickets
dated_back es days [] are h = tt
dated_back es days (t ∷ tickets) are h = (subst IsSome (sym (are t.day)) (if_some _ h.0), dated_back es days tickets are h.1)

pub fit_on : (es : Counts) (days : List ℕ) (tickets : List Ticket) → AreNothing es days → FitCounts es tickets → FitDays days tickets
fit_on es days tickets are fit = (dated_on es days tickets are fit.0, fit.1)

pub fit_back : (es : Counts) (days : List ℕ) (tickets : List Ticket) → AreNothing es days → FitDays days tickets → FitCounts es tickets
fit_back es days tickets are fit = (dated_back es days tickets are fit.0, fit.1)

pub all_counted : (es fs : Counts) (days : List ℕ) (tickets : List Ticket) → AreNothing es days → ((q : ℕ) → counts_at fs q ≡ option_map (λ _. counts_on tickets q) (counts_at es q)) → AreCounted fs days tickets
all_counted es fs days tickets are is q = is q ∙ ap (option_map (λ _. counts_on tickets q)) (are q) ∙ by_case (list_any (λ d. q == d) days)
  where
    by_case : (b : Bool) → option_map (λ _. counts_on tickets q) (cond b (Some no_counts) None) ≡ cond b (Some (counts_on tickets q)) None
    by_case true = refl
    by_case false = refl
