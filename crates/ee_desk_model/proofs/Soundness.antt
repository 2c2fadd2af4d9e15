-- Acts keep books sound.
use Rattle.std.proofs.Common.{◌≡◌, ◌==◌, ℕ, suc, ◌+◌, ◌-◌, ◌<◌, ◌≤◌, Bool, true, false, cond, not, eqb, List, [], ◌∷◌, ◌++◌, map, Option, Some, None, true≢false, length, nat_lt, nat_le, arith, refl, sym, ap, ◌∙◌, subst, append-nil, append_assoc}
use Rattle.std.specs.Option.{IfSome, IsSome, option_or, option_map, option_map_or, is_none, is_some}
use Rattle.std.specs.List.{AllByRecursion, list_any, find, sum_by, count_by}
use Rattle.std.specs.Ordering.{nat_cmp}
use Rattle.std.specs.Cmp.{nat_cmp_total, unsigned_tied}
use Rattle.std.proofs.lemmas.Bool.{eqb-true, eq-eqb, not-false, or_parts, or_from, leb-false, ltb-false, false_from_ne_true}
use Rattle.std.proofs.lemmas.List.Sums.{sum_by-append, length-filter}
use Rattle.std.proofs.lemmas.List.Elements.{filter-append}
use Rattle.std.proofs.lemmas.List.{map-append}
use Rattle.std.specs.FinMap as finite
use Rattle.std.specs.FinMap.{FinMap, get-empty, get-insert}
use Rattle.ee_units.specs.Spelling.{SerialNumber}
use Rattle.ee_value.specs.declared.rates.Rates.{Rates}
use Rattle.ee_desk_model.specs.declared.replies.Ticket.{Ticket}
use Rattle.ee_desk_model.specs.declared.replies.Batch.{Batch}
use Rattle.ee_calculator.specs.declared.bonds.Bond.{Bond}
use Rattle.ee_desk_model.specs.declared.changes.Held.{Held}
use Rattle.ee_value.specs.declared.rates.RateRow.{RateRow}
use Rattle.ee_desk_model.specs.declared.replies.Line.{Line}
use Rattle.ee_desk_model.specs.declared.acts.Act.{Act}
use Rattle.ee_desk_model.specs.declared.acts.Act.TheVariants.{AddRates, AddBonds, OpenDay, Redeem, CloseDay}
use Rattle.ee_desk_model.specs.declared.refusals.Refusal.{Refusal}
use Rattle.ee_desk_model.specs.declared.refusals.Refusal.TheVariants.{Empty, TooMany, Repeated, SameCoowner, NotAnnouncementMonth, RateUnsettled, NoRate, DayOpen, DayNotLater, DayIsOther, DayFull, NotPayee, AlreadyPaid, NotIssued, NotEligible}
use Rattle.ee_desk_model.specs.Serials.{serial_cmp, same_serial}
use Rattle.ee_units.specs.Calendar.{period_start, month_of_day, is_announcement}
use Rattle.ee_desk_model.specs.Values.{value_of, unsettled}
use Rattle.ee_desk_model.specs.Lists.{Rising, NeverFalling}
use Rattle.ee_calculator.specs.Bonds.{has_coowner, is_payee}
use Rattle.ee_desk_model.specs.PlainBooks.{PlainBooks, no_books, ticket_of, names, of_day, batch_of, batch_so_far, bonds_on, total_of}
use Rattle.ee_desk_model.specs.Paid.{paid_lines, NoneTwice}
use Rattle.ee_desk_model.specs.Seen.{Seen, shown, held_as, held_of, rate_of, value_in, line_for, ticket_for, closing_batch}
use Rattle.ee_desk_model.specs.Refusals.{first, first_of, when, known_rate, tests_of, tests_of_held, refusal_of, refusal_of_day, refusal_of_held, refusal_of_serial, unannounced, near, own_coowner, unrated, repeated}
use Rattle.ee_desk_model.specs.declared.changes.Change.TheVariants as change
use Rattle.ee_desk_model.specs.Effects as effects
use Rattle.ee_desk_model.specs.Effects.{new_rates, new_bonds, rate_change, accepted, effects_of}
use Rattle.ee_desk_model.specs.Ranges.{IsInRange}
use Rattle.ee_desk_model.specs.Acts.{with_rates, with_bonds, done, unless_refused, books_after}
use Rattle.ee_desk_model.specs.Sound.{IsSound, IsDay, IsRightRate, IsRightBond, IsRightLine, IsRightTicket, NumberedFrom, day_of, day_of_batch, open_days, days, last_of}
use Rattle.ee_desk_model.proofs.Maps.{serials_total, serials_tied, serials_swap, serial_is, all_map, all_both}
use Rattle.ee_desk_model.proofs.Orders.{all_append, all_filter, all_passed, all_mapped, all_unmapped, any_has, any_left, any_last, rising_push, rising_below, rising_most, never_falling_push, not_below}

pub empty_is_sound : IsSound no_books
empty_is_sound = record {
  rates = λ m. subst (λ o. IfSome o (IsRightRate m)) (sym (get-empty nat_cmp m)) tt;
  bonds = λ s. subst (λ o. IfSome o (IsRightBond no_books.rates s)) (sym (get-empty serial_cmp s)) tt;
  numbered = tt;
  tickets = tt;
  once = tt;
  in_order = tt;
  few = λ day. omega arith;
  dated = tt;
  rising = tt;
  in_range = tt;
  last = refl;
  batches = tt;
}

-- each bond stands under its own serial number
pub bonds_keyed : (books : PlainBooks) → IsSound books → (serial : SerialNumber) → IfSome (finite.get books.bonds serial) (λ bond. bond.serial ≡ serial)
bonds_keyed books sound serial = by_case (finite.get books.bonds serial) (sound.bonds serial)
  where
    by_case : (o : Option Bond) → IfSome o (IsRightBond books.rates serial) → IfSome o (λ bond. bond.serial ≡ serial)
    by_case None right = tt
    by_case (Some bond) right = right.keyed

-- ---- no test refuses
pub or_none : {A : Type 0} (x y : Option A) → option_or x y ≡ None → (x ≡ None) × (y ≡ None)
or_none None y e = (refl, e)
or_none (Some x) y e = absurd (cc)

pub no_refusal : (tests : List (Option Refusal)) → first tests ≡ None → AllByRecursion (λ t. t ≡ None) tests
no_refusal [] e = tt
no_refusal (t ∷ tests) e = let p = or_none t (first tests) e in (p.0, no_refusal tests p.1)

pub test_passed : {A : Type 0} (b : Bool) (r : A) (rest : Option A) → cond b (Some r) rest ≡ None → (b ≡ false) × (rest ≡ None)
test_passed true r rest e = absurd (cc)
test_passed false r rest e = (refl, e)

pub all_of : {A : Type 0} (refusal : A → Option Refusal) (rows : List A) → first_of refusal rows ≡ None → AllByRecursion (λ row. refusal row ≡ None) rows
all_of refusal [] e = tt
all_of refusal (row ∷ rows) e = let p = or_none (refusal row) (first_of refusal rows) e in (p.0, all_of refusal rows p.1)

pub mapped_none : {A B : Type 0} (f : A → B) (o : Option A) → option_map f o ≡ None → o ≡ None
mapped_none f None e = refl
mapped_none f (Some x) e = absurd (cc)

pub none_is : {A : Type 0} (o : Option A) → is_none o ≡ true → o ≡ None
none_is None e = refl
none_is (Some x) e = absurd (true≢false (sym e))

pub some_is : {A : Type 0} (o : Option A) → IsSome o → (x : A) × (o ≡ Some x)
some_is None h = absurd (true≢false (sym h))
some_is (Some x) h = (x, refl)

some_from_not : {A : Type 0} (o : Option A) → is_none o ≡ false → IsSome o
some_from_not None e = absurd (true≢false e)
some_from_not (Some x) e = refl

none_from_not : {A : Type 0} (o : Option A) → is_some o ≡ false → o ≡ None
none_from_not None e = refl
none_from_not (Some x) e = absurd (true≢false e)

if_cond : {A : Type 0} (P : A → Type 0) (t : Bool) (b : A) (o : Option A) → (t ≡ true → P b) → IfSome o P → IfSome (cond t (Some b) o) P
if_cond P true b o here there = here refl
if_cond P false b o here there = there

-- ---- maps only gain
rate_after : (rates : FinMap nat_cmp Rates) (k : ℕ) (v : Rates) (q : ℕ) → finite.get (finite.insert rates k v) q ≡ cond (eqb q k) (Some v) (finite.get rates q)
rate_after rates k v q = get-insert nat_cmp_total rates k v q ∙ ap (λ b. cond b (Some v) (finite.get rates q)) (unsigned_tied q k)

bond_after : (held : FinMap serial_cmp Bond) (k : SerialNumber) (v : Bond) (q : SerialNumber) → finite.get (finite.insert held k v) q ≡ cond (same_serial q k) (Some v) (finite.get held q)
bond_after held k v q = get-insert serials_total held k v q ∙ ap (λ b. cond b (Some v) (finite.get held q)) (serials_tied q k)

rate_stays : (rates now : FinMap nat_cmp Rates) (new : List RateRow) (q : ℕ) (v : Rates) → AllByRecursion (λ row. finite.get rates row.from ≡ None) new
    → finite.get rates q ≡ Some v → finite.get now q ≡ Some v → finite.get (with_rates now new) q ≡ Some v
rate_stays rates now [] q v absent had has = has
rate_stays rates now (row ∷ new) q v absent had has =
    rate_stays rates (finite.insert now row.from row.rates) new q v absent.1 had (rate_after now row.from row.rates q ∙ ap (λ b. cond b (Some row.rates) (finite.get now q)) apart ∙ has)
  where
    apart : eqb q row.from ≡ false
    apart = false_from_ne_true (eqb q row.from) (λ e. let s = sym had ∙ ap (finite.get rates) (eqb-true q row.from e) ∙ absent.0 in absurd (cc))

bond_stays : (bonds now : FinMap serial_cmp Bond) (new : List Bond) (q : SerialNumber) (v : Bond) → AllByRecursion (λ b. finite.get bonds b.serial ≡ None) new
    → finite.get bonds q ≡ Some v → finite.get now q ≡ Some v → finite.get (with_bonds now new) q ≡ Some v
bond_stays bonds now [] q v absent had has = has
bond_stays bonds now (b ∷ new) q v absent had has =
    bond_stays bonds (finite.insert now b.serial b) new q v absent.1 had (bond_after now b.serial b q ∙ ap (λ t. cond t (Some b) (finite.get now q)) apart ∙ has)
  where
    apart : same_serial q b.serial ≡ false
    apart = false_from_ne_true (same_serial q b.serial) (λ e. let s = sym had ∙ ap (finite.get bonds) (serial_is q b.serial e) ∙ absent.0 in absurd (cc))

pub record Gains (old new : PlainBooks) : Type 0 where
  pub rates : (q : ℕ) (v : Rates) → finite.get old.rates q ≡ Some v → finite.get new.rates q ≡ Some v
  pub bonds : (s : SerialNumber) (b : Bond) → finite.get old.bonds s ≡ Some b → finite.get new.bonds s ≡ Some b

line_stays : (old new : PlainBooks) → Gains old new → (t : Ticket) (lines : List Line) → AllByRecursion (IsRightLine old.rates old.bonds t) lines → AllByRecursion (IsRightLine new.rates new.bonds t) lines
line_stays old new g t [] h = tt
line_stays old new g t (line ∷ lines) h =
    ((h.0.0, h.0.1, g.bonds _ _ h.0.2, g.rates _ _ h.0.3, h.0.4, h.0.5, h.0.6), line_stays old new g t lines h.1)

ticket_stays : (old new : PlainBooks) → Gains old new → (tickets : List Ticket) → AllByRecursion (IsRightTicket old.rates old.bonds) tickets → AllByRecursion (IsRightTicket new.rates new.bonds) tickets
ticket_stays old new g [] h = tt
ticket_stays old new g (t ∷ tickets) h =
    (record { some = h.0.some; few = h.0.few; lines = line_stays old new g t t.lines h.0.lines; total = h.0.total }, ticket_stays old new g tickets h.1)

bond_right : (old new : PlainBooks) → Gains old new → (s : SerialNumber) (b : Bond) → IsRightBond old.rates s b → IsRightBond new.rates s b
bond_right old new g s b h =
    let r = some_is (finite.get old.rates (period_start b.issued)) h.rated in
    record { keyed = h.keyed; rated = ap is_some (g.rates (period_start b.issued) r.0 r.1); owned = h.owned; in_range = h.in_range }

bonds_right : (old new : PlainBooks) → Gains old new → (s : SerialNumber) (o : Option Bond) → IfSome o (IsRightBond old.rates s) → IfSome o (IsRightBond new.rates s)
bonds_right old new g s None h = tt
bonds_right old new g s (Some b) h = bond_right old new g s b h

-- ---- rates
new_absent : (seen : Seen) (earlier rows : List RateRow) → AllByRecursion (λ row. seen.rate row.from ≡ None) (new_rates seen earlier rows)
new_absent seen earlier [] = tt
new_absent seen earlier (row ∷ rows) = keep (is_none (known_rate seen earlier row.from)) refl (new_absent seen (earlier ++ row ∷ []) rows)
  where
    keep : (b : Bool) → is_none (known_rate seen earlier row.from) ≡ b → AllByRecursion (λ r. seen.rate r.from ≡ None) (new_rates seen (earlier ++ row ∷ []) rows)
        → AllByRecursion (λ r. seen.rate r.from ≡ None) (cond b (row ∷ new_rates seen (earlier ++ row ∷ []) rows) (new_rates seen (earlier ++ row ∷ []) rows))
    keep true e rest = ((or_none (seen.rate row.from) _ (none_is (known_rate seen earlier row.from) e)).0, rest)
    keep false e rest = rest

all_new : (P : RateRow → Type 0) (seen : Seen) (earlier rows : List RateRow) → AllByRecursion P rows → AllByRecursion P (new_rates seen earlier rows)
all_new P seen earlier [] h = tt
all_new P seen earlier (row ∷ rows) h = keep (is_none (known_rate seen earlier row.from)) (all_new P seen (earlier ++ row ∷ []) rows h.1)
  where
    keep : (b : Bool) → AllByRecursion P (new_rates seen (earlier ++ row ∷ []) rows)
        → AllByRecursion P (cond b (row ∷ new_rates seen (earlier ++ row ∷ []) rows) (new_rates seen (earlier ++ row ∷ []) rows))
    keep true rest = (h.0, rest)
    keep false rest = rest

rates_right : (now : FinMap nat_cmp Rates) (new : List RateRow) → AllByRecursion (λ row. IsRightRate row.from row.rates) new
    → ((m : ℕ) → IfSome (finite.get now m) (IsRightRate m)) → (m : ℕ) → IfSome (finite.get (with_rates now new) m) (IsRightRate m)
rates_right now [] h have m = have m
rates_right now (row ∷ new) h have m = rates_right (finite.insert now row.from row.rates) new h.1
    (λ q. subst (λ o. IfSome o (IsRightRate q)) (sym (rate_after now row.from row.rates q))
    (if_cond (IsRightRate q) (eqb q row.from) row.rates (finite.get now q) (λ e. subst (λ k. IsRightRate k row.rates) (sym (eqb-true q row.from e)) h.0) (have q))) m

-- a row that stands at an announced month and leaves no value unsettled
abbrev IsGoodRow : RateRow → Type 0
IsGoodRow row = (is_announcement row.from ≡ true) × (unsettled row.rates ≡ None)

right_rows : (rows : List RateRow) → AllByRecursion (λ row. unannounced row ≡ None) rows → AllByRecursion (λ row. near row ≡ None) rows → AllByRecursion IsGoodRow rows
right_rows [] h k = tt
right_rows (row ∷ rows) h k =
    ((not-false (is_announcement row.from) (test_passed (not (is_announcement row.from)) (NotAnnouncementMonth row.from) None h.0).0, mapped_none RateUnsettled (unsettled row.rates) k.0), right_rows rows h.1 k.1)

rates_sound : (books : PlainBooks) (rows : List RateRow) → IsSound books → refusal_of (shown books) (AddRates rows) ≡ None
    → AllByRecursion IsInRange (map rate_change (new_rates (shown books) [] rows)) → IsSound (done books (AddRates rows))
rates_sound books rows sound none ranges =
    let tests = no_refusal (tests_of (shown books) (AddRates rows)) none in
    let new = new_rates (shown books) [] rows in
    let after : PlainBooks = record books { rates = with_rates books.rates new } in
    let gains : Gains books after = record { rates = λ q v had. rate_stays books.rates books.rates new q v (new_absent (shown books) [] rows) had had; bonds = λ s b h. h } in
    let good = all_new IsGoodRow (shown books) [] rows (right_rows rows (all_of unannounced rows tests.1.0) (all_of near rows tests.1.1.1.0)) in
    let right = all_map (λ row. IsGoodRow row × IsInRange (rate_change row)) (λ row. IsRightRate row.from row.rates) (λ row h. record { announced = h.0.0; settled = h.0.1; in_range = h.1 }) new
    (all_both IsGoodRow (λ row. IsInRange (rate_change row)) new good (all_unmapped IsInRange rate_change new ranges)) in
    record {
      rates = rates_right books.rates new right sound.rates;
      bonds = λ s. bonds_right books after gains s (finite.get books.bonds s) (sound.bonds s);
      numbered = sound.numbered;
      tickets = ticket_stays books after gains books.tickets sound.tickets;
      once = sound.once;
      in_order = sound.in_order;
      few = sound.few;
      dated = sound.dated;
      rising = sound.rising;
      in_range = sound.in_range;
      last = sound.last;
      batches = sound.batches;
    }

-- ---- bonds
bonds_all_right : (books : PlainBooks) (now : FinMap serial_cmp Bond) (new : List Bond) → AllByRecursion (λ b. IsRightBond books.rates b.serial b) new
    → ((s : SerialNumber) → IfSome (finite.get now s) (IsRightBond books.rates s)) → (s : SerialNumber) → IfSome (finite.get (with_bonds now new) s) (IsRightBond books.rates s)
bonds_all_right books now [] h have s = have s
bonds_all_right books now (b ∷ new) h have s = bonds_all_right books (finite.insert now b.serial b) new h.1
    (λ q. subst (λ o. IfSome o (IsRightBond books.rates q)) (sym (bond_after now b.serial b q))
    (if_cond (IsRightBond books.rates q) (same_serial q b.serial) b (finite.get now q) (λ e. subst (λ k. IsRightBond books.rates k b) (sym (serial_is q b.serial e)) h.0) (have q))) s

-- a bond that has rates, and no coowner who is the owner
abbrev IsGoodBond : PlainBooks → Bond → Type 0
IsGoodBond books b = IsSome (rate_of (shown books) b) × (has_coowner b b.owner ≡ false)

right_bonds : (books : PlainBooks) (bonds : List Bond) → AllByRecursion (λ b. own_coowner b ≡ None) bonds → AllByRecursion (λ b. unrated (shown books) b ≡ None) bonds
    → AllByRecursion (IsGoodBond books) bonds
right_bonds books [] h k = tt
right_bonds books (b ∷ bonds) h k = (
  (
    some_from_not (rate_of (shown books) b) (test_passed (is_none (rate_of (shown books) b)) (NoRate b.serial) None k.0).0,
    (test_passed (has_coowner b b.owner) (SameCoowner b.serial) None h.0).0,
  ),
  right_bonds books bonds h.1 k.1,
)

bonds_sound : (books : PlainBooks) (bonds : List Bond) → IsSound books → refusal_of (shown books) (AddBonds bonds) ≡ None
    → AllByRecursion IsInRange (map change.Bond (new_bonds (shown books) bonds)) → IsSound (done books (AddBonds bonds))
bonds_sound books bonds sound none ranges =
    let tests = no_refusal (tests_of (shown books) (AddBonds bonds)) none in
    let new = new_bonds (shown books) bonds in
    let after : PlainBooks = record books { bonds = with_bonds books.bonds new } in
    let absent = all_map (λ b. is_none (held_of books b.serial) ≡ true) (λ b. finite.get books.bonds b.serial ≡ None)
    (λ b e. mapped_none (held_as books.tickets b.serial) (finite.get books.bonds b.serial) (none_is (held_of books b.serial) e)) new (all_passed (λ b. is_none (held_of books b.serial)) bonds) in
    let gains : Gains books after = record { rates = λ q v h. h; bonds = λ s b had. bond_stays books.bonds books.bonds new s b absent had had } in
    let good = all_filter (IsGoodBond books) (λ b. is_none (held_of books b.serial)) bonds
    (right_bonds books bonds (all_of own_coowner bonds tests.1.1.0) (all_of (unrated (shown books)) bonds tests.1.1.1.0)) in
    let right = all_map (λ b. IsGoodBond books b × IsInRange (change.Bond b)) (λ b. IsRightBond books.rates b.serial b)
    (λ b h. record { keyed = refl; rated = h.0.0; owned = h.0.1; in_range = h.1 }) new
    (all_both (IsGoodBond books) (λ b. IsInRange (change.Bond b)) new good (all_unmapped IsInRange change.Bond new ranges)) in
    record {
      rates = sound.rates;
      bonds = λ s. bonds_right books after gains s (finite.get after.bonds s)
          (bonds_all_right books books.bonds new right sound.bonds s);
      numbered = sound.numbered;
      tickets = ticket_stays books after gains books.tickets sound.tickets;
      once = sound.once;
      in_order = sound.in_order;
      few = sound.few;
      dated = sound.dated;
      rising = sound.rising;
      in_range = sound.in_range;
      last = sound.last;
      batches = sound.batches;
    }

-- ---- days
lt_from : (d x : ℕ) → nat_le d x ≡ false → x < d
lt_from d x e = leb-false d x e

closed_below : (batches : List Batch) (last : Option ℕ) (d : ℕ) → Rising (map day_of_batch batches) → last ≡ last_of batches → option_map_or (λ closed. nat_le d closed) last false ≡ false
    → AllByRecursion (λ x. x < d) (map day_of_batch batches)
closed_below [] last d h is e = tt
closed_below (b ∷ []) last d h is e = (below (nat_le d b.day) refl, tt)
  where
    below : (t : Bool) → nat_le d b.day ≡ t → b.day < d
    below true le = absurd (true≢false (sym le ∙ sym (ap (λ o. option_map_or (λ closed. nat_le d closed) o false) is) ∙ e))
    below false le = lt_from d b.day le
closed_below (b ∷ c ∷ batches) last d h is e =
    let rest = closed_below (c ∷ batches) last d h.1 is e in
    let here = h.0.0 in let next = rest.0 in (omega (arith, here, next), rest)

opens_sound : (books : PlainBooks) (day : ℕ) → IsSound books → refusal_of (shown books) (OpenDay day) ≡ None → IsDay day → IsSound (done books (OpenDay day))
opens_sound books day sound none range =
    let tests = no_refusal (tests_of (shown books) (OpenDay day)) none in
    let closed : books.day ≡ None = none_from_not books.day (test_passed (is_some books.day) DayOpen None tests.0).0 in
    let later = (test_passed (option_map_or (λ c. nat_le day c) books.last_day false) DayNotLater None tests.1.0).0 in
    let ds = map day_of_batch books.batches in
    let were : days books ≡ ds = ap (λ o. ds ++ open_days o) closed ∙ append-nil ds in
    let rising = subst Rising were sound.rising in
    record {
      rates = sound.rates;
      bonds = sound.bonds;
      numbered = sound.numbered;
      tickets = sound.tickets;
      once = sound.once;
      in_order = sound.in_order;
      few = sound.few;
      dated = all_map _ _ (λ (t : Ticket) e. any_left (λ d. eqb t.day d) ds (day ∷ []) (ap (list_any (λ d. eqb t.day d)) (sym were) ∙ e)) books.tickets sound.dated;
      rising = rising_push ds day rising (closed_below books.batches books.last_day day rising sound.last later);
      in_range = all_append IsDay ds (day ∷ []) (subst (AllByRecursion IsDay) were sound.in_range) (range, tt);
      last = sound.last;
      batches = sound.batches;
    }

open_is : (o : Option ℕ) (day : ℕ) → refusal_of_day o day ≡ None → o ≡ Some day
open_is None day e = absurd (cc)
open_is (Some other) day e = ap Some (eqb-true other day (not-false (eqb other day) (test_passed (not (eqb other day)) DayIsOther None e).0))

pub last_pushed : (batches : List Batch) (b : Batch) → last_of (batches ++ b ∷ []) ≡ Some b.day
last_pushed [] b = refl
last_pushed (x ∷ []) b = refl
last_pushed (x ∷ y ∷ batches) b = last_pushed (y ∷ batches) b

close_sound : (books : PlainBooks) (day : ℕ) → IsSound books → refusal_of (shown books) (CloseDay day) ≡ None → IsSound (done books (CloseDay day))
close_sound books day sound none =
    let opened = open_is books.day day (no_refusal (tests_of (shown books) (CloseDay day)) none).0 in
    let batch = closing_batch (shown books) day in
    let is : batch ≡ batch_of day books.tickets = ap (λ o. let b = batch_so_far o books.tickets in record { day = day; tickets = b.tickets; bonds = b.bonds; total = b.total }) opened in
    let same : days books ≡ days (done books (CloseDay day)) =
    ap (λ o. map day_of_batch books.batches ++ open_days o) opened ∙ sym (map-append day_of_batch books.batches (batch ∷ [])) ∙ sym (append-nil (map day_of_batch (books.batches ++ batch ∷ []))) in
    record {
      rates = sound.rates;
      bonds = sound.bonds;
      numbered = sound.numbered;
      tickets = sound.tickets;
      once = sound.once;
      in_order = sound.in_order;
      few = sound.few;
      dated = subst (λ (ds : List ℕ). AllByRecursion (λ (t : Ticket). list_any (λ d. eqb t.day d) ds ≡ true) books.tickets) same sound.dated;
      rising = subst Rising same sound.rising;
      in_range = subst (AllByRecursion IsDay) same sound.in_range;
      last = sym (last_pushed books.batches batch);
      batches = all_append (λ b. b ≡ batch_of b.day books.tickets) books.batches (batch ∷ []) sound.batches (is, tt);
    }

-- ---- a ticket more
abbrev Apart : SerialNumber → Line → Type 0
Apart s line = same_serial s line.serial ≡ false

cross_head : (x : Line) (ys : List Line) (xs : List Line) → AllByRecursion (λ y. AllByRecursion (Apart y.serial) (x ∷ xs)) ys → AllByRecursion (Apart x.serial) ys
cross_head x [] xs h = tt
cross_head x (y ∷ ys) xs h = (serials_swap x.serial y.serial ∙ h.0.0, cross_head x ys xs h.1)

cross_tail : (x : Line) (ys : List Line) (xs : List Line) → AllByRecursion (λ y. AllByRecursion (Apart y.serial) (x ∷ xs)) ys → AllByRecursion (λ y. AllByRecursion (Apart y.serial) xs) ys
cross_tail x [] xs h = tt
cross_tail x (y ∷ ys) xs h = (h.0.1, cross_tail x ys xs h.1)

none_twice_append : (xs ys : List Line) → NoneTwice xs → NoneTwice ys → AllByRecursion (λ y. AllByRecursion (Apart y.serial) xs) ys → NoneTwice (xs ++ ys)
none_twice_append [] ys h k cross = k
none_twice_append (x ∷ xs) ys h k cross =
    (all_append (Apart x.serial) xs ys h.0 (cross_head x ys xs cross), none_twice_append xs ys h.1 k (cross_tail x ys xs cross))

pub paid_append : (tickets : List Ticket) (t : Ticket) → paid_lines (tickets ++ t ∷ []) ≡ paid_lines tickets ++ t.lines
paid_append [] t = append-nil t.lines
paid_append (u ∷ tickets) t = ap (λ l. u.lines ++ l) (paid_append tickets t) ∙ sym (append_assoc u.lines (paid_lines tickets) t.lines)

none_any : (s : SerialNumber) (lines : List Line) → list_any (λ line. same_serial s line.serial) lines ≡ false → AllByRecursion (Apart s) lines
none_any s [] e = tt
none_any s (line ∷ lines) e = let p = or_parts (same_serial s line.serial) (list_any (λ l. same_serial s l.serial) lines) e in (p.0, none_any s lines p.1)

found : (b : Bool) (t : Ticket) (o : Option Ticket) → option_map (λ x. x.ticket) (cond b (Some t) o) ≡ None → (b ≡ false) × (option_map (λ x. x.ticket) o ≡ None)
found true t o e = absurd (cc)
found false t o e = (refl, e)

unpaid : (tickets : List Ticket) (s : SerialNumber) → ticket_of tickets s ≡ None → AllByRecursion (Apart s) (paid_lines tickets)
unpaid [] s e = tt
unpaid (t ∷ tickets) s e =
    let p = found (names s t) t (find (names s) tickets) e in
    all_append (Apart s) t.lines (paid_lines tickets) (none_any s t.lines p.0) (unpaid tickets s p.1)

any_append : (s : SerialNumber) (xs : List SerialNumber) (x : SerialNumber) → list_any (same_serial s) (xs ++ x ∷ []) ≡ false → (list_any (same_serial s) xs ≡ false) × (same_serial s x ≡ false)
any_append s [] x e = (refl, (or_parts (same_serial s x) false e).0)
any_append s (y ∷ xs) x e =
    let p = or_parts (same_serial s y) (list_any (same_serial s) (xs ++ x ∷ [])) e in
    let q = any_append s xs x p.1 in
    (or_from (same_serial s y) (list_any (same_serial s) xs) p.0 q.0, q.1)

module _ (line : SerialNumber → Line) (own : (s : SerialNumber) → (line s).serial ≡ s) where
  apart_lines : (x : SerialNumber) (earlier ss : List SerialNumber) → AllByRecursion (λ s. list_any (same_serial s) (earlier ++ x ∷ []) ≡ false) ss
      → AllByRecursion (Apart (line x).serial) (map line ss) × AllByRecursion (λ s. list_any (same_serial s) earlier ≡ false) ss
  apart_lines x earlier [] h = (tt, tt)
  apart_lines x earlier (s ∷ ss) h =
      let p = any_append s earlier x h.0 in
      let rest = apart_lines x earlier ss h.1 in
      (((λ i. same_serial (own x i) (own s i)) ∙ serials_swap x s ∙ p.1, rest.0), (p.0, rest.1))

  lines_apart : (earlier ss : List SerialNumber) → repeated earlier ss ≡ None → AllByRecursion (λ s. list_any (same_serial s) earlier ≡ false) ss × NoneTwice (map line ss)
  lines_apart earlier [] none = (tt, tt)
  lines_apart earlier (s ∷ ss) none =
      let p = test_passed (list_any (same_serial s) earlier) (Repeated s) (repeated (earlier ++ s ∷ []) ss) none in
      let rest = lines_apart (earlier ++ s ∷ []) ss p.1 in
      let here = apart_lines s earlier ss rest.0 in
      ((p.0, here.1), (here.0, rest.1))

-- what is held of a serial that isn't refused
pub record IsPayable (month by : ℕ) (held : Held) : Type 0 where
  pub payee : is_payee held.bond by ≡ true
  pub unpaid : held.ticket ≡ None
  pub old : held.bond.issued + 12 ≤ month

pub payable : (month payee : ℕ) (s : SerialNumber) (o : Option Held) → refusal_of_held month payee s o ≡ None → (held : Held) × (o ≡ Some held) × IsPayable month payee held
payable month payee s None e = absurd (cc)
payable month payee s (Some held) e =
    let tests = no_refusal (tests_of_held month payee s held) e in
    let issued = ltb-false month held.bond.issued (test_passed (nat_lt month held.bond.issued) (NotIssued s) None tests.1.1.0).0 in
    let aged = ltb-false (month - held.bond.issued) 12 (test_passed (nat_lt (month - held.bond.issued) 12) (NotEligible s) None tests.1.1.1.0).0 in (
      held,
      refl,
      record {
        payee = not-false (is_payee held.bond payee) (test_passed (not (is_payee held.bond payee)) (NotPayee s) None tests.0).0;
        unpaid = mapped_none (AlreadyPaid s) held.ticket tests.1.0;
        old = omega (arith, issued, aged);
      },
    )

pub held_bond : (tickets : List Ticket) (s : SerialNumber) (o : Option Bond) (held : Held) → option_map (held_as tickets s) o ≡ Some held → (o ≡ Some held.bond) × (held.ticket ≡ ticket_of tickets s)
held_bond tickets s None held e = absurd (cc)
held_bond tickets s (Some bond) held e = (ap (option_map (λ h. h.bond)) e, ap (λ o. option_map_or (λ h. h.ticket) o None) (sym e))

module _ (books : PlainBooks) (sound : IsSound books) (day payee : ℕ) where
  abbrev line_of : SerialNumber → Line
  line_of = line_for (shown books) (month_of_day day)

  new_line : (t : Ticket) → t.day ≡ day → t.payee ≡ payee → (s : SerialNumber) → refusal_of_serial (shown books) (month_of_day day) payee s ≡ None
      → IsRightLine books.rates books.bonds t (line_of s) × AllByRecursion (Apart s) (paid_lines books.tickets)
  new_line t on by s none =
      let p = payable (month_of_day day) payee s (held_of books s) none in
      let held = p.0 in
      let here = held_bond books.tickets s (finite.get books.bonds s) held p.1 in
      let right = subst (λ o. IfSome o (IsRightBond books.rates s)) here.0 (sound.bonds s) in
      let r = some_is (finite.get books.rates (period_start held.bond.issued)) right.rated in (
        (
          held.bond,
          r.0,
          here.0,
          r.1,
          ap (is_payee held.bond) by ∙ p.2.payee,
          subst (λ d. held.bond.issued + 12 ≤ month_of_day d) (sym on) p.2.old,
          ap (λ o. option_map_or (λ h. value_in (shown books) (month_of_day day) h.bond) o 0) p.1
              ∙ ap (λ o. option_map_or (λ rates. value_of rates held.bond (month_of_day day)) o 0) r.1
              ∙ ap (λ d. value_of r.0 held.bond (month_of_day d)) (sym on),
        ),
        unpaid books.tickets s (sym here.1 ∙ p.2.unpaid),
      )

  new_lines : (t : Ticket) → t.day ≡ day → t.payee ≡ payee → (ss : List SerialNumber) → AllByRecursion (λ s. refusal_of_serial (shown books) (month_of_day day) payee s ≡ None) ss
      → AllByRecursion (IsRightLine books.rates books.bonds t) (map line_of ss) × AllByRecursion (λ line. AllByRecursion (Apart line.serial) (paid_lines books.tickets)) (map line_of ss)
  new_lines t on by [] none = (tt, tt)
  new_lines t on by (s ∷ ss) none =
      let here = new_line t on by s none.0 in
      let rest = new_lines t on by ss none.1 in
      ((here.0, rest.0), (here.1, rest.1))

numbered_push : (n : ℕ) (tickets : List Ticket) (t : Ticket) → NumberedFrom n tickets → t.ticket ≡ length tickets + n → NumberedFrom n (tickets ++ t ∷ [])
numbered_push n [] t h e = (omega (arith, e), tt)
numbered_push n (u ∷ tickets) t h e = (h.0, numbered_push (suc n) tickets t h.1 (omega (arith, e)))

of_day_push : (d : ℕ) (tickets : List Ticket) (t : Ticket) → eqb t.day d ≡ false → of_day d (tickets ++ t ∷ []) ≡ of_day d tickets
of_day_push d tickets t other = filter-append (λ u. eqb u.day d) tickets (t ∷ []) ∙ ap (λ b. of_day d tickets ++ cond b (t ∷ []) []) other ∙ append-nil (of_day d tickets)

batches_stay : (batches : List Batch) (tickets : List Ticket) (t : Ticket) → AllByRecursion (λ b. b.day < t.day) batches → AllByRecursion (λ b. b ≡ batch_of b.day tickets) batches
    → AllByRecursion (λ b. b ≡ batch_of b.day (tickets ++ t ∷ [])) batches
batches_stay [] tickets t below h = tt
batches_stay (b ∷ batches) tickets t below h = (
  h.0 ∙ ap (λ (own : List Ticket). record { day = b.day; tickets = length own; bonds = sum_by bonds_on own; total = record { 0 = sum_by total_of own } }) (sym (of_day_push b.day tickets t (not_below b.day t.day below.0))),
  batches_stay batches tickets t below.1 h.1,
)

length-map : {A B : Type 0} (f : A → B) (xs : List A) → length (map f xs) ≡ length xs
length-map f [] = refl
length-map f (x ∷ xs) = ap suc (length-map f xs)

some_serials : (ss : List SerialNumber) → (length ss == 0) ≡ false → 1 ≤ length ss
some_serials [] e = absurd (true≢false e)
some_serials (s ∷ ss) e = omega arith

few_push : (tickets : List Ticket) (t : Ticket) (d : ℕ) → count_by (λ u. eqb u.day t.day) tickets < 1000 → count_by (λ u. eqb u.day d) tickets ≤ 1000
    → count_by (λ u. eqb u.day d) (tickets ++ t ∷ []) ≤ 1000
few_push tickets t d room h =
    let more = sum_by-append (λ u. cond (eqb u.day d) 1 0) tickets (t ∷ []) in
    by_case more (eqb t.day d) refl
  where
    by_case : count_by (λ u. eqb u.day d) (tickets ++ t ∷ []) ≡ count_by (λ u. eqb u.day d) tickets + (0 + cond (eqb t.day d) 1 0) → (b : Bool) → eqb t.day d ≡ b → count_by (λ u. eqb u.day d) (tickets ++ t ∷ []) ≤ 1000
    by_case more true e =
        let r = subst (λ k. count_by (λ u. eqb u.day k) tickets < 1000) (eqb-true t.day d e) room in
        let one : ◌≡◌ {A = ℕ} (cond (eqb t.day d) 1 0) 1 = ap (λ b. cond b 1 0) e in omega (arith, more, r, one)
    by_case more false e = let one : ◌≡◌ {A = ℕ} (cond (eqb t.day d) 1 0) 0 = ap (λ b. cond b 1 0) e in omega (arith, more, h, one)

-- no ticket is of a day after the open one
pub none_later : (books : PlainBooks) → IsSound books → (day : ℕ) → books.day ≡ Some day → AllByRecursion (λ t. t.day ≤ day) books.tickets
none_later books sound day opened =
    let closed = map day_of_batch books.batches in
    let are : days books ≡ closed ++ day ∷ [] = ap (λ o. closed ++ open_days o) opened in
    let rising = subst Rising are sound.rising in
    let dated = subst (λ (ds : List ℕ). AllByRecursion (λ (t : Ticket). list_any (λ d. eqb t.day d) ds ≡ true) books.tickets) are sound.dated in
    all_map _ _ (λ (t : Ticket) e. any_has (λ x. x ≤ day) (λ d. eqb t.day d) (t.day ≤ day) (λ x le same. let s = eqb-true t.day x same in omega (arith, le, s)) (closed ++ day ∷ []) (rising_most closed day rising) e) books.tickets dated

redeem_sound : (books : PlainBooks) (day payee : ℕ) (ss : List SerialNumber) → IsSound books → refusal_of (shown books) (Redeem day payee ss) ≡ None → IsSound (done books (Redeem day payee ss))
redeem_sound books day payee ss sound none =
    let tests = no_refusal (tests_of (shown books) (Redeem day payee ss)) none in
    let ticket = ticket_for (shown books) day payee ss in
    let opened = open_is books.day day tests.1.1.0 in
    let closed = map day_of_batch books.batches in
    let are : days books ≡ closed ++ day ∷ [] = ap (λ o. closed ++ open_days o) opened in
    let rising = subst Rising are sound.rising in
    let lines = new_lines books sound day payee ticket refl refl ss (all_of (refusal_of_serial (shown books) (month_of_day day) payee) ss tests.1.1.1.1.0) in
    let distinct = lines_apart (line_of books sound day payee) (λ s. refl) [] ss tests.1.0 in
    let long = length-map (line_of books sound day payee) ss in
    let short = or_none (when (length ss == 0) Empty) (when (nat_lt 100 (length ss)) TooMany) tests.0 in
    let some = some_serials ss (test_passed (length ss == 0) Empty None short.0).0 in
    let few = ltb-false 100 (length ss) (test_passed (nat_lt 100 (length ss)) TooMany None short.1).0 in
    let full = leb-false 1000 (shown books).day_tickets (test_passed (nat_le 1000 (shown books).day_tickets) DayFull None tests.1.1.1.0).0 in
    let count : (shown books).day_tickets ≡ count_by (λ u. eqb u.day day) books.tickets = ap (λ o. (batch_so_far o books.tickets).tickets) opened ∙ length-filter (λ u. eqb u.day day) books.tickets in
    let top = none_later books sound day opened in
    record {
      rates = sound.rates;
      bonds = sound.bonds;
      numbered = numbered_push 1 books.tickets ticket sound.numbered (omega arith);
      tickets = all_append (IsRightTicket books.rates books.bonds) books.tickets (ticket ∷ []) sound.tickets
          (record { some = subst (λ n. 1 ≤ n) (sym long) some; few = subst (λ n. n ≤ 100) (sym long) few; lines = lines.0; total = refl }, tt);
      once = subst NoneTwice (sym (paid_append books.tickets ticket)) (none_twice_append (paid_lines books.tickets) ticket.lines sound.once distinct.1 lines.1);
      in_order = subst NeverFalling (sym (map-append day_of books.tickets (ticket ∷ []))) (never_falling_push (map day_of books.tickets) day sound.in_order (all_mapped (λ x. x ≤ day) day_of books.tickets top));
      few = λ d. few_push books.tickets ticket d (omega (arith, full, count)) (sound.few d);
      dated = all_append (λ t. list_any (λ d. eqb t.day d) (days books) ≡ true) books.tickets (ticket ∷ []) sound.dated
          (ap (list_any (λ d. eqb day d)) are ∙ any_last (λ d. eqb day d) closed day (eq-eqb day day refl), tt);
      rising = sound.rising;
      in_range = sound.in_range;
      last = sound.last;
      batches = batches_stay books.batches books.tickets ticket (all_unmapped (λ x. x < day) day_of_batch books.batches (rising_below closed day rising)) sound.batches;
    }

pub done_sound : (books : PlainBooks) (asked : Act) → IsSound books → refusal_of (shown books) asked ≡ None → AllByRecursion IsInRange (accepted (shown books) asked).changes → IsSound (done books asked)
done_sound books (AddRates rows) sound none ranges = rates_sound books rows sound none ranges
done_sound books (AddBonds bonds) sound none ranges = bonds_sound books bonds sound none ranges
done_sound books (OpenDay day) sound none ranges = opens_sound books day sound none ranges.0
done_sound books (Redeem day payee ss) sound none ranges = redeem_sound books day payee ss sound none
done_sound books (CloseDay day) sound none ranges = close_sound books day sound none

-- acts keep books sound
pub act_sound : (books : PlainBooks) (asked : Act) → IsSound books → AllByRecursion IsInRange (effects_of (shown books) asked).changes → IsSound (books_after books asked)
act_sound books asked sound ranges = unless (refusal_of (shown books) asked) refl ranges
  where
    unless : (o : Option Refusal) → refusal_of (shown books) asked ≡ o → AllByRecursion IsInRange (effects.unless_refused (shown books) asked o).changes → IsSound (unless_refused books asked o)
    unless None none h = done_sound books asked sound none h
    unless (Some refusal) is h = sound

-- a serial that isn't registered stands on no ticket
unnamed : (books : PlainBooks) (s : SerialNumber) → finite.get books.bonds s ≡ None → (t : Ticket) (lines : List Line) → AllByRecursion (IsRightLine books.rates books.bonds t) lines
    → list_any (λ line. same_serial s line.serial) lines ≡ false
unnamed books s none t [] h = refl
unnamed books s none t (line ∷ lines) h = or_from (same_serial s line.serial) (list_any (λ l. same_serial s l.serial) lines) apart (unnamed books s none t lines h.1)
  where
    apart : same_serial s line.serial ≡ false
    apart = false_from_ne_true (same_serial s line.serial) (λ e. let p = sym none ∙ ap (finite.get books.bonds) (serial_is s line.serial e) ∙ h.0.2 in absurd (cc))

unregistered : (books : PlainBooks) (s : SerialNumber) → finite.get books.bonds s ≡ None → (tickets : List Ticket) → AllByRecursion (IsRightTicket books.rates books.bonds) tickets
    → ticket_of tickets s ≡ None
unregistered books s none [] h = refl
unregistered books s none (t ∷ tickets) h =
    ap (λ b. option_map (λ x. x.ticket) (cond b (Some t) (find (names s) tickets))) (unnamed books s none t t.lines h.0.lines) ∙ unregistered books s none tickets h.1

pub unregistered_unpaid : (books : PlainBooks) → IsSound books → (s : SerialNumber) → finite.get books.bonds s ≡ None → ticket_of books.tickets s ≡ None
unregistered_unpaid books sound s none = unregistered books s none books.tickets sound.tickets

-- a day that can be opened has no tickets
none_on : (tickets : List Ticket) (day : ℕ) → AllByRecursion (λ t. t.day < day) tickets → of_day day tickets ≡ []
none_on [] day h = refl
none_on (t ∷ tickets) day h = ap (λ b. cond b (t ∷ of_day day tickets) (of_day day tickets)) (not_after t.day day h.0) ∙ none_on tickets day h.1
  where
    not_after : (x y : ℕ) → x < y → eqb x y ≡ false
    not_after x y h = false_from_ne_true (eqb x y) (λ e. let s = eqb-true x y e in absurd (omega (arith, s)))

pub opens_empty : (books : PlainBooks) (day : ℕ) → IsSound books → refusal_of (shown books) (OpenDay day) ≡ None → of_day day books.tickets ≡ []
opens_empty books day sound none =
    let tests = no_refusal (tests_of (shown books) (OpenDay day)) none in
    let closed : books.day ≡ None = none_from_not books.day (test_passed (is_some books.day) DayOpen None tests.0).0 in
    let later = (test_passed (option_map_or (λ c. nat_le day c) books.last_day false) DayNotLater None tests.1.0).0 in
    let ds = map day_of_batch books.batches in
    let were : days books ≡ ds = ap (λ o. ds ++ open_days o) closed ∙ append-nil ds in
    let below = closed_below books.batches books.last_day day (subst Rising were sound.rising) sound.last later in
    none_on books.tickets day (all_map _ _ (λ (t : Ticket) e. any_has (λ x. x < day) (λ d. eqb t.day d) (t.day < day)
    (λ x lt same. let s = eqb-true t.day x same in omega (arith, lt, s)) ds below (ap (list_any (λ d. eqb t.day d)) (sym were) ∙ e)) books.tickets sound.dated)

-- a ticket is made on the open day
pub redeem_opened : (books : PlainBooks) (day payee : ℕ) (ss : List SerialNumber) → refusal_of (shown books) (Redeem day payee ss) ≡ None → books.day ≡ Some day
redeem_opened books day payee ss none = open_is books.day day (no_refusal (tests_of (shown books) (Redeem day payee ss)) none).1.1.0
