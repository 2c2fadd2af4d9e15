-- What is decided can be applied, and leaves sound books.
use Rattle.std.proofs.Common.{◌≡◌, ◌==◌, ℕ, eqb, Bool, true, false, cond, ◌||◌, List, [], ◌∷◌, ◌++◌, map, Option, Some, None, true≢false, arith, refl, sym, ap, ◌∙◌, subst}
use Rattle.std.specs.Prelude.{Result, Ok, Err, OnOk, OnErr}
use Rattle.std.specs.Option.{option_map, option_or, is_none}
use Rattle.std.specs.List.{AllByRecursion, find, filter, list_any}
use Rattle.std.specs.FinMap as finite
use Rattle.std.specs.FinMap.{FinMap, get-insert}
use Rattle.std.specs.Ordering.{nat_cmp}
use Rattle.std.specs.Cmp.{nat_cmp_total, unsigned_tied}
use Rattle.std.proofs.lemmas.Bool.{eqb-true, eq-eqb, or_parts}
use Rattle.ee_units.specs.Calendar.{month_of_day}
use Rattle.ee_units.specs.Spelling.{SerialNumber}
use Rattle.ee_value.specs.declared.rates.Rates.{Rates}
use Rattle.ee_calculator.specs.declared.bonds.Bond.{Bond}
use Rattle.ee_value.specs.declared.rates.RateRow.{RateRow}
use Rattle.ee_desk_model.specs.declared.acts.Act.{Act}
use Rattle.ee_desk_model.specs.declared.acts.Act.TheVariants.{AddRates, AddBonds, OpenDay, Redeem, CloseDay}
use Rattle.ee_desk_model.specs.declared.refusals.Refusal.{Refusal}
use Rattle.ee_desk_model.specs.declared.refusals.Refusal.TheVariants.{Repeated}
use Rattle.ee_desk_model.specs.declared.replies.Ticket.{Ticket}
use Rattle.ee_desk_model.specs.declared.changes.Effects.{Effects}
use Rattle.ee_desk_model.specs.declared.changes.Change.TheVariants as change
use Rattle.ee_desk_model.specs.Serials.{serial_cmp, same_serial}
use Rattle.ee_desk_model.specs.PlainBooks.{PlainBooks, ticket_of}
use Rattle.ee_desk_model.specs.Seen.{Seen, shown, line_for, held_of, held_as, ticket_for}
use Rattle.ee_desk_model.specs.Refusals.{known_rate, tests_of, refusal_of, refusal_of_serial, repeated_bond}
use Rattle.ee_desk_model.specs.Effects.{new_rates, new_bonds, rate_change, accepted, unless_refused, effects_of}
use Rattle.ee_desk_model.specs.Acts.{done, applied}
use Rattle.ee_desk_model.specs.Ranges.{IsInRange}
use Rattle.ee_desk_model.specs.Sound.{IsSound}
use Rattle.ee_desk_model.specs.Views.{view_of, shown_by}
use Rattle.ee_desk_model.proofs.Lemmas.Maps.{serials_total, serials_tied, all_weaker, all_filter, all_passed}
use Rattle.ee_desk_model.proofs.Lemmas.Books.{seen_enough, applied_are_books_after, done_keeps_sound, act_keeps_sound, no_test_refuses, no_row_refused, unrefused_is_payable, held_is_registered, none_from_is_none, none_from_option_or, none_from_option_map, none_from_cond, unregistered_unpaid, opened_day_is_empty, redeem_on_open_day, few_tickets_on, few_bonds_on, small_total_on}
use Rattle.ee_desk_decide.specs.Inner.NewRows.{rate_row, bond_row, AreNew}
use Rattle.ee_desk_decide.specs.Inner.Applicable.{IsRate, IsBond, IsUnpaid, HasRoom, AreApplicable}

find_push : (q : ℕ) (rows : List RateRow) (row : RateRow) → option_map (λ r. r.rates) (find (λ r. r.from == q) (rows ++ row ∷ [])) ≡ None
    → (option_map (λ r. r.rates) (find (λ r. r.from == q) rows) ≡ None) × (eqb row.from q ≡ false)
find_push q [] row e = (refl, last (eqb row.from q) e)
  where
    last : (b : Bool) → option_map (λ (r : RateRow). r.rates) (cond b (Some row) None) ≡ None → b ≡ false
    last true e = absurd (cc)
    last false e = refl
find_push q (x ∷ rows) row e = step (eqb x.from q) e (find_push q rows row)
  where
    step : (b : Bool) → option_map (λ (r : RateRow). r.rates) (cond b (Some x) (find (λ r. r.from == q) (rows ++ row ∷ []))) ≡ None
        → (option_map (λ (r : RateRow). r.rates) (find (λ r. r.from == q) (rows ++ row ∷ [])) ≡ None → (option_map (λ (r : RateRow). r.rates) (find (λ r. r.from == q) rows) ≡ None) × (eqb row.from q ≡ false))
        → (option_map (λ (r : RateRow). r.rates) (cond b (Some x) (find (λ r. r.from == q) rows)) ≡ None) × (eqb row.from q ≡ false)
    step true e rest = absurd (cc)
    step false e rest = rest e

known_push : (seen : Seen) (earlier : List RateRow) (row : RateRow) (q : ℕ) → known_rate seen (earlier ++ row ∷ []) q ≡ None → (known_rate seen earlier q ≡ None) × (eqb row.from q ≡ false)
known_push seen earlier row q e =
    let p = none_from_option_or (seen.rate q) _ e in
    let f = find_push q earlier row p.1 in
    (ap (λ o. option_or o (option_map (λ r. r.rates) (find (λ r. r.from == q) earlier))) p.0 ∙ f.0, f.1)

all_rates : (rows : List RateRow) → AllByRecursion IsRate (map rate_change rows)
all_rates [] = tt
all_rates (row ∷ rows) = (tt, all_rates rows)

new_after : (m : FinMap nat_cmp Rates) (k : ℕ) (v : Rates) (q : ℕ) → eqb k q ≡ false → finite.get m q ≡ None → finite.get (finite.insert m k v) q ≡ None
new_after m k v q apart e = get-insert nat_cmp_total m k v q ∙ ap (λ b. cond b (Some v) (finite.get m q)) (unsigned_tied q k ∙ swapped q k apart) ∙ e
  where
    swapped : (q k : ℕ) → eqb k q ≡ false → eqb q k ≡ false
    swapped q k apart = by_case (eqb q k) refl
      where
        by_case : (b : Bool) → eqb q k ≡ b → b ≡ false
        by_case true same = absurd (true≢false (sym (ap (λ x. eqb x q) (sym (eqb-true q k same)) ∙ eq-eqb q q refl) ∙ apart))
        by_case false same = refl

new_rows : (seen : Seen) (m : FinMap nat_cmp Rates) (earlier rows : List RateRow) → ((q : ℕ) → known_rate seen earlier q ≡ None → finite.get m q ≡ None)
    → AreNew rate_row m (map rate_change (new_rates seen earlier rows))
new_rows seen m earlier [] free = tt
new_rows seen m earlier (row ∷ rows) free =
    by_case (is_none (known_rate seen earlier row.from)) refl
    (λ (here : known_rate seen earlier row.from ≡ None). new_rows seen (finite.insert m row.from row.rates) (earlier ++ row ∷ []) rows
    (λ q e. let p = known_push seen earlier row q e in new_after m row.from row.rates q p.1 (free q p.0)))
    (new_rows seen m (earlier ++ row ∷ []) rows (λ q e. free q (known_push seen earlier row q e).0))
  where
    by_case : (b : Bool) → is_none (known_rate seen earlier row.from) ≡ b
        → (known_rate seen earlier row.from ≡ None → AreNew rate_row (finite.insert m row.from row.rates) (map rate_change (new_rates seen (earlier ++ row ∷ []) rows)))
        → AreNew rate_row m (map rate_change (new_rates seen (earlier ++ row ∷ []) rows))
        → AreNew rate_row m (map rate_change (cond b (row ∷ new_rates seen (earlier ++ row ∷ []) rows) (new_rates seen (earlier ++ row ∷ []) rows)))
    by_case true is fresh held = let none = none_from_is_none (known_rate seen earlier row.from) is in (free row.from none, fresh none)
    by_case false is fresh held = held

rates_applicable : (books : PlainBooks) (rows : List RateRow) → AreNew rate_row books.rates (map rate_change rows) → AreApplicable books (map rate_change rows)
rates_applicable books [] h = tt
rates_applicable books (row ∷ rows) h = (all_rates rows, h)

-- ---- bonds
all_bonds : (bonds : List Bond) → AllByRecursion IsBond (map change.Bond bonds)
all_bonds [] = tt
all_bonds (bond ∷ bonds) = (tt, all_bonds bonds)

-- the serials of the bonds stand on none of the earlier ones
abbrev AreApart : List Bond → List Bond → Type 0
AreApart earlier bonds = AllByRecursion (λ bond. list_any (λ other. same_serial bond.serial other.serial) earlier ≡ false) bonds

any_front : (s : SerialNumber) (earlier : List Bond) (bond : Bond) → list_any (λ other. same_serial s other.serial) (earlier ++ bond ∷ []) ≡ false
    → (list_any (λ other. same_serial s other.serial) earlier ≡ false) × (same_serial s bond.serial ≡ false)
any_front s [] bond e = (refl, (or_parts (same_serial s bond.serial) false e).0)
any_front s (x ∷ earlier) bond e =
    let p = or_parts (same_serial s x.serial) (list_any (λ other. same_serial s other.serial) (earlier ++ bond ∷ [])) e in
    let q = any_front s earlier bond p.1 in
    ((λ i. p.0 i || q.0 i), q.1)

-- no bond has the serial of one that comes after it
abbrev Distinct : List Bond → Type 0
Distinct [] = Unit {0}
Distinct (bond ∷ bonds) = AllByRecursion (λ other. same_serial other.serial bond.serial ≡ false) bonds × Distinct bonds

apart_from : (earlier : List Bond) (bond : Bond) (bonds : List Bond) → AreApart (earlier ++ bond ∷ []) bonds → AllByRecursion (λ other. same_serial other.serial bond.serial ≡ false) bonds
apart_from earlier bond bonds h = all_weaker _ _ (λ other e. (any_front other.serial earlier bond e).1) bonds h

unrepeated : (earlier bonds : List Bond) → repeated_bond earlier bonds ≡ None → AreApart earlier bonds × Distinct bonds
unrepeated earlier [] none = (tt, tt)
unrepeated earlier (bond ∷ bonds) none =
    let p = none_from_cond (list_any (λ other. same_serial bond.serial other.serial) earlier) (Repeated bond.serial) (repeated_bond (earlier ++ bond ∷ []) bonds) none in
    let rest = unrepeated (earlier ++ bond ∷ []) bonds p.1 in
    ((p.0, all_weaker _ _ (λ other e. (any_front other.serial earlier bond e).0) bonds rest.0), (apart_from earlier bond bonds rest.0, rest.1))

distinct_filter : (p : Bond → Bool) (bonds : List Bond) → Distinct bonds → Distinct (filter p bonds)
distinct_filter p [] h = tt
distinct_filter p (bond ∷ bonds) h = keep (p bond) (all_filter (λ other. same_serial other.serial bond.serial ≡ false) p bonds h.0) (distinct_filter p bonds h.1)
  where
    keep : (b : Bool) → AllByRecursion (λ other. same_serial other.serial bond.serial ≡ false) (filter p bonds) → Distinct (filter p bonds) → Distinct (cond b (bond ∷ filter p bonds) (filter p bonds))
    keep true apart rest = (apart, rest)
    keep false apart rest = rest

new_registered : (m : FinMap serial_cmp Bond) (bonds : List Bond) → Distinct bonds → AllByRecursion (λ bond. finite.get m bond.serial ≡ None) bonds → AreNew bond_row m (map change.Bond bonds)
new_registered m [] h absent = tt
new_registered m (bond ∷ bonds) h absent =
    (absent.0, new_registered (finite.insert m bond.serial bond) bonds h.1 (stay bonds h.0 absent.1))
  where
    stay : (more : List Bond) → AllByRecursion (λ other. same_serial other.serial bond.serial ≡ false) more → AllByRecursion (λ other. finite.get m other.serial ≡ None) more
        → AllByRecursion (λ other. finite.get (finite.insert m bond.serial bond) other.serial ≡ None) more
    stay [] apart none = tt
    stay (x ∷ more) apart none = (
      get-insert serials_total m bond.serial bond x.serial ∙ ap (λ b. cond b (Some bond) (finite.get m x.serial)) (serials_tied x.serial bond.serial ∙ apart.0) ∙ none.0,
      stay more apart.1 none.1,
    )

bonds_applicable : (books : PlainBooks) (bonds : List Bond) → AreNew bond_row books.bonds (map change.Bond bonds) → AllByRecursion (IsUnpaid books) (map change.Bond bonds) → AreApplicable books (map change.Bond bonds)
bonds_applicable books [] h unpaid = tt
bonds_applicable books (bond ∷ bonds) h unpaid = (all_bonds bonds, h, unpaid)

all_unpaid : (books : PlainBooks) → IsSound books → (bonds : List Bond) → AllByRecursion (λ bond. finite.get books.bonds bond.serial ≡ None) bonds → AllByRecursion (IsUnpaid books) (map change.Bond bonds)
all_unpaid books sound [] h = tt
all_unpaid books sound (bond ∷ bonds) h = (unregistered_unpaid books sound bond.serial h.0, all_unpaid books sound bonds h.1)

add_bonds_applicable : (books : PlainBooks) (bonds : List Bond) → IsSound books → refusal_of (shown books) (AddBonds bonds) ≡ None → AreApplicable books (map change.Bond (new_bonds (shown books) bonds))
add_bonds_applicable books bonds sound none =
    let tests = no_test_refuses (tests_of (shown books) (AddBonds bonds)) none in
    let new = new_bonds (shown books) bonds in
    let distinct = distinct_filter (λ b. is_none (held_of books b.serial)) bonds (unrepeated [] bonds tests.1.0).1 in
    let absent = all_weaker (λ b. is_none (held_of books b.serial) ≡ true) (λ b. finite.get books.bonds b.serial ≡ None)
    (λ b e. none_from_option_map (held_as books.tickets b.serial) (finite.get books.bonds b.serial) (none_from_is_none (held_of books b.serial) e)) new (all_passed (λ b. is_none (held_of books b.serial)) bonds) in
    bonds_applicable books new (new_registered books.bonds new distinct absent) (all_unpaid books sound new absent)

-- ---- tickets
unpaid_lines : (books : PlainBooks) (month payee : ℕ) (ss : List SerialNumber) → AllByRecursion (λ s. refusal_of_serial (shown books) month payee s ≡ None) ss
    → AllByRecursion (λ line. ticket_of books.tickets line.serial ≡ None) (map (line_for (shown books) month) ss)
unpaid_lines books month payee [] h = tt
unpaid_lines books month payee (s ∷ ss) h =
    let p = unrefused_is_payable month payee s (held_of books s) h.0 in
    let b = held_is_registered books.tickets s (finite.get books.bonds s) p.0 p.1 in
    (sym b.1 ∙ p.2.unpaid, unpaid_lines books month payee ss h.1)

room : (books : PlainBooks) (t : Ticket) → IsSound (record books { tickets = books.tickets ++ t ∷ [] }) → HasRoom books.tickets t
room books t sound =
    let after : PlainBooks = record books { tickets = books.tickets ++ t ∷ [] } in
    let a = few_tickets_on after sound t.day in
    let b = few_bonds_on after sound t.day in
    let c = small_total_on after sound t.day in
    (omega (arith, a), omega (arith, b), omega (arith, c))

accepted_applicable : (books : PlainBooks) (asked : Act) → IsSound books → AllByRecursion IsInRange (accepted (shown books) asked).changes → refusal_of (shown books) asked ≡ None
    → AreApplicable books (accepted (shown books) asked).changes
accepted_applicable books (AddRates rows) sound ranges none =
    rates_applicable books (new_rates (shown books) [] rows) (new_rows (shown books) books.rates [] rows (λ q e. (none_from_option_or (finite.get books.rates q) _ e).0))
accepted_applicable books (AddBonds bonds) sound ranges none = add_bonds_applicable books bonds sound none
accepted_applicable books (OpenDay day) sound ranges none = (refl, opened_day_is_empty books day sound none)
accepted_applicable books (Redeem day payee ss) sound ranges none =
    let tests = no_test_refuses (tests_of (shown books) (Redeem day payee ss)) none in (
      refl,
      (
        unpaid_lines books (month_of_day day) payee ss (no_row_refused (refusal_of_serial (shown books) (month_of_day day) payee) ss tests.1.1.1.1.0),
        redeem_on_open_day books day payee ss none,
        room books (ticket_for (shown books) day payee ss) (done_keeps_sound books (Redeem day payee ss) sound none ranges),
      ),
    )
accepted_applicable books (CloseDay day) sound ranges none = refl

unless_applicable : (books : PlainBooks) (asked : Act) (o : Option Refusal) → refusal_of (shown books) asked ≡ o → IsSound books → AllByRecursion IsInRange (unless_refused (shown books) asked o).changes
    → AreApplicable books (unless_refused (shown books) asked o).changes
unless_applicable books asked None none sound ranges = accepted_applicable books asked sound ranges none
unless_applicable books asked (Some refusal) is sound ranges = tt

-- effects that an act has by what it sees of the books
abbrev pub AreDecided : PlainBooks → Effects → Type 0
AreDecided books effects = (asked : Act) × (effects ≡ effects_of (shown_by (view_of books asked)) asked)

pub applicable : (books : PlainBooks) (effects : Effects) → IsSound books → AllByRecursion IsInRange effects.changes → AreDecided books effects → AreApplicable books effects.changes
applicable books effects sound ranges (asked, is) =
    let same = is ∙ seen_enough books asked in
    subst (λ (e : Effects). AreApplicable books e.changes) (sym same)
    (unless_applicable books asked (refusal_of (shown books) asked) refl sound (subst (λ (e : Effects). AllByRecursion IsInRange e.changes) same ranges))

by_result : {A E : Type 0} (r : Result A E) (old new done : PlainBooks) → OnOk r (new ≡ done) → OnErr r (new ≡ old) → IsSound old → IsSound done → IsSound new
by_result (Ok x) old new done ok err before after = subst IsSound (sym ok) after
by_result (Err e) old new done ok err before after = subst IsSound (sym err) before

pub sound_after : {A E : Type 0} (r : Result A E) (old new : PlainBooks) (effects : Effects) → AllByRecursion IsInRange effects.changes → AreDecided old effects
    → OnOk r (new ≡ applied old effects.changes) → OnErr r (new ≡ old) → IsSound old → IsSound new
sound_after r old new effects ranges (asked, is) ok err sound =
    let same = is ∙ seen_enough old asked in
    by_result r old new (applied old effects.changes) ok err sound
    (subst IsSound (sym (ap (λ (e : Effects). applied old e.changes) is ∙ applied_are_books_after old asked))
    (act_keeps_sound old asked sound (subst (λ (e : Effects). AllByRecursion IsInRange e.changes) same ranges)))
