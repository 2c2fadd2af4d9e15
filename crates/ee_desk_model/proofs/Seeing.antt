-- What an act names is all that it is decided by.
use Rattle.std.proofs.Common.{◌≡◌, ◌==◌, ℕ, suc, ◌++◌, length, ◌≤◌, true, cond, List, [], ◌∷◌, Option, Some, None, map, map-id, nat_le, arith, refl, sym, ap, ◌∙◌, subst}
use Rattle.std.specs.Option.{option_map, option_or, option_map_or, IfSome, is_none}
use Rattle.std.specs.List.{list_any, find, AllByRecursion, sum_by}
use Rattle.std.specs.FinMap as finite
use Rattle.std.specs.Ordering.{nat_cmp, eq_by_cmp}
use Rattle.std.specs.Cmp.{nat_cmp_total}
use Rattle.std.proofs.lemmas.Map.Lookups.{exact_unsigned}
use Rattle.ee_units.specs.Spelling.{SerialNumber}
use Rattle.ee_value.specs.declared.rates.RateRow.{RateRow}
use Rattle.ee_calculator.specs.declared.bonds.Bond.{Bond}
use Rattle.ee_desk_model.specs.declared.changes.Held.{Held}
use Rattle.ee_desk_model.specs.declared.acts.Act.{Act}
use Rattle.ee_desk_model.specs.declared.acts.Act.TheVariants.{AddRates, AddBonds, OpenDay, Redeem, CloseDay}
use Rattle.ee_desk_model.specs.declared.refusals.Refusal.{Refusal}
use Rattle.ee_desk_model.specs.declared.refusals.Refusal.TheVariants.{DayFull, RateConflict, NoRate, SerialConflict}
use Rattle.ee_desk_model.specs.declared.changes.Effects.{Effects}
use Rattle.ee_desk_model.specs.declared.replies.Ticket.{Ticket}
use Rattle.ee_desk_model.specs.declared.changes.Change.TheVariants as change
use Rattle.ee_desk_model.specs.declared.replies.Reply.TheVariants as reply
use Rattle.ee_desk_model.specs.declared.replies.Reply.TheVariants.{Refused}
use Rattle.ee_desk_model.specs.Serials.{serial_cmp}
use Rattle.ee_units.specs.Calendar.{month_of_day, period_start}
use Rattle.ee_desk_model.specs.Values.{value_of}
use Rattle.ee_desk_model.specs.PlainBooks.{PlainBooks, cents_of}
use Rattle.ee_desk_model.specs.Seen.{Seen, shown, rate_of, held_of, value_in, worth, line_for, open_batch}
use Rattle.ee_desk_model.specs.Refusals.{first, first_of, when, is_other, known_rate, rate_conflict, near, unannounced, repeated, repeated_bond, own_coowner, unrated, bond_conflict, is_other_bond, refusal_of_day, refusal_of_held, refusal_of_serial, refusal_of, refusal_of_length, length_refusal, most_rows, most_serials, most_tickets}
use Rattle.ee_desk_model.specs.Effects.{new_rates, new_bonds, accepted, unless_refused, effects_of, rate_change, added}
use Rattle.ee_desk_model.specs.Acts as acts
use Rattle.ee_desk_model.specs.Acts.{done, applied, with_rates, with_bonds, books_after}
use Rattle.ee_desk_model.specs.Views.{PlainView, no_view, view_of, needed_within, needed_unless, needed_of, shown_by, picked, periods_of, period_of_held}
use Rattle.ee_desk_model.proofs.Maps.{serials_total, exact_serials, get_named, all_named, all_found, all_map, all_both}

-- effects are alike where refusals and what is accepted are
same_unless : (v b : Seen) (asked : Act) (o : Option Refusal) → accepted v asked ≡ accepted b asked → unless_refused v asked o ≡ unless_refused b asked o
same_unless v b asked None e = e
same_unless v b asked (Some refusal) e = refl

same_effects : (v b : Seen) (asked : Act) → refusal_of v asked ≡ refusal_of b asked → accepted v asked ≡ accepted b asked → effects_of v asked ≡ effects_of b asked
same_effects v b asked refused same = ap (unless_refused v asked) refused ∙ same_unless v b asked (refusal_of b asked) same

-- ---- rates
module _ (v b : Seen) where
  abbrev IsSeenRate : RateRow → Type 0
  IsSeenRate row = v.rate row.from ≡ b.rate row.from

  same_known : (earlier : List RateRow) (row : RateRow) → IsSeenRate row → known_rate v earlier row.from ≡ known_rate b earlier row.from
  same_known earlier row e = ap (λ o. option_or o (option_map (λ r. r.rates) (find (λ r. r.from == row.from) earlier))) e

  same_conflict : (earlier rows : List RateRow) → AllByRecursion IsSeenRate rows → rate_conflict v earlier rows ≡ rate_conflict b earlier rows
  same_conflict earlier [] h = refl
  same_conflict earlier (row ∷ rows) h = λ i. cond (is_other (same_known earlier row h.0 i) row.rates) (Some (RateConflict row.from)) (same_conflict (earlier ++ row ∷ []) rows h.1 i)

  same_new_rates : (earlier rows : List RateRow) → AllByRecursion IsSeenRate rows → new_rates v earlier rows ≡ new_rates b earlier rows
  same_new_rates earlier [] h = refl
  same_new_rates earlier (row ∷ rows) h = λ i.
      cond (is_none (same_known earlier row h.0 i)) (row ∷ same_new_rates (earlier ++ row ∷ []) rows h.1 i) (same_new_rates (earlier ++ row ∷ []) rows h.1 i)

  same_of_rates : (rows : List RateRow) → AllByRecursion IsSeenRate rows → effects_of v (AddRates rows) ≡ effects_of b (AddRates rows)
  same_of_rates rows h = same_effects v b (AddRates rows)
      (λ i. first (refusal_of_length most_rows (length rows) ∷ first_of unannounced rows ∷ same_conflict [] rows h i ∷ first_of near rows ∷ []))
      (ap (λ (new : List RateRow). record { changes = map rate_change new; reply = added new rows }) (same_new_rates [] rows h))

  -- ---- bonds
  abbrev IsSeenBond : Bond → Type 0
  IsSeenBond bond = (rate_of v bond ≡ rate_of b bond) × (v.held bond.serial ≡ b.held bond.serial)

  same_unrated : (bonds : List Bond) → AllByRecursion IsSeenBond bonds → first_of (unrated v) bonds ≡ first_of (unrated b) bonds
  same_unrated [] h = refl
  same_unrated (x ∷ bonds) h = λ i. option_or (when (is_none (h.0.0 i)) (NoRate x.serial)) (same_unrated bonds h.1 i)

  same_bond_conflict : (bonds : List Bond) → AllByRecursion IsSeenBond bonds → first_of (bond_conflict v) bonds ≡ first_of (bond_conflict b) bonds
  same_bond_conflict [] h = refl
  same_bond_conflict (x ∷ bonds) h = λ i. option_or (when (is_other_bond (h.0.1 i) x) (SerialConflict x.serial)) (same_bond_conflict bonds h.1 i)

  same_new_bonds : (bonds : List Bond) → AllByRecursion IsSeenBond bonds → new_bonds v bonds ≡ new_bonds b bonds
  same_new_bonds [] h = refl
  same_new_bonds (x ∷ bonds) h = λ i. cond (is_none (h.0.1 i)) (x ∷ same_new_bonds bonds h.1 i) (same_new_bonds bonds h.1 i)

  same_of_bonds : (bonds : List Bond) → AllByRecursion IsSeenBond bonds → effects_of v (AddBonds bonds) ≡ effects_of b (AddBonds bonds)
  same_of_bonds bonds h = same_effects v b (AddBonds bonds)
      (λ i. first (refusal_of_length most_rows (length bonds) ∷ repeated_bond [] bonds ∷ first_of own_coowner bonds ∷ same_unrated bonds h i ∷ same_bond_conflict bonds h i ∷ []))
      (ap (λ (new : List Bond). record { changes = map change.Bond new; reply = added new bonds }) (same_new_bonds bonds h))

  -- ---- tickets
  abbrev IsSeenHeld : Held → Type 0
  IsSeenHeld held = rate_of v held.bond ≡ rate_of b held.bond

  abbrev IsSeenSerial : SerialNumber → Type 0
  IsSeenSerial s = (v.held s ≡ b.held s) × IfSome (b.held s) IsSeenHeld

  same_refused : (month payee : ℕ) (ss : List SerialNumber) → AllByRecursion IsSeenSerial ss → first_of (refusal_of_serial v month payee) ss ≡ first_of (refusal_of_serial b month payee) ss
  same_refused month payee [] h = refl
  same_refused month payee (s ∷ ss) h = λ i. option_or (refusal_of_held month payee s (h.0.0 i)) (same_refused month payee ss h.1 i)

  same_worth_of : (month : ℕ) (o : Option Held) → IfSome o IsSeenHeld → option_map_or (λ held. value_in v month held.bond) o 0 ≡ option_map_or (λ held. value_in b month held.bond) o 0
  same_worth_of month None h = refl
  same_worth_of month (Some held) h = ap (λ o. option_map_or (λ rates. value_of rates held.bond month) o 0) h

  same_worth : (month : ℕ) (s : SerialNumber) → IsSeenSerial s → worth v month s ≡ worth b month s
  same_worth month s h = ap (λ o. option_map_or (λ held. value_in v month held.bond) o 0) h.0 ∙ same_worth_of month (b.held s) h.1

  same_lines : (month : ℕ) (ss : List SerialNumber) → AllByRecursion IsSeenSerial ss → map (line_for v month) ss ≡ map (line_for b month) ss
  same_lines month [] h = refl
  same_lines month (s ∷ ss) h = λ i. record { serial = s; cents = record { 0 = same_worth month s h.0 i } } ∷ same_lines month ss h.1 i

  same_of_redeem : (day payee : ℕ) (ss : List SerialNumber) → v.day ≡ b.day → v.day_tickets ≡ b.day_tickets → v.tickets ≡ b.tickets → AllByRecursion IsSeenSerial ss
      → effects_of v (Redeem day payee ss) ≡ effects_of b (Redeem day payee ss)
  same_of_redeem day payee ss opened count number h = same_effects v b (Redeem day payee ss)
      (λ i. first (refusal_of_length most_serials (length ss) ∷ repeated [] ss ∷ refusal_of_day (opened i) day ∷ when (nat_le most_tickets (count i)) DayFull ∷ same_refused (month_of_day day) payee ss h i ∷ []))
      (λ i.
      let lines = same_lines (month_of_day day) ss h i in
      let ticket : Ticket = record { ticket = suc (number i); day = day; payee = payee; lines = lines; total = record { 0 = sum_by cents_of lines } } in
      record { changes = change.Ticket ticket ∷ []; reply = reply.Ticket ticket })

-- a redemption is decided whatever the open day's tickets pay
redeem_enough : (books : PlainBooks) (paid total day payee : ℕ) (ss : List SerialNumber)
    → effects_of (shown_by (record (view_of books (Redeem day payee ss)) { day_bonds = paid; day_total = total })) (Redeem day payee ss) ≡ effects_of (shown books) (Redeem day payee ss)
redeem_enough books paid total day payee ss = same_of_redeem (shown_by (record (view_of books (Redeem day payee ss)) { day_bonds = paid; day_total = total })) (shown books) day payee ss refl refl refl
    (all_both _ _ ss
    (all_map _ _ (λ s named. get_named serials_total exact_serials (held_of books) ss s (subst (λ l. list_any (eq_by_cmp serial_cmp s) l ≡ true) (map-id ss) named)) ss (all_named serials_total (λ s. s) ss))
    (all_map _ _ (λ s found. rated (held_of books s) found) ss (all_found nat_cmp_total (λ s. option_map period_of_held (held_of books s)) ss)))
  where
    rated : (o : Option Held) → IfSome (option_map period_of_held o) (λ k. list_any (eq_by_cmp nat_cmp k) (periods_of books (Redeem day payee ss)) ≡ true)
        → IfSome o (λ held. finite.get (picked {R = nat_cmp} (finite.get books.rates) (periods_of books (Redeem day payee ss))) (period_start held.bond.issued) ≡ finite.get books.rates (period_start held.bond.issued))
    rated None h = tt
    rated (Some held) h = get_named nat_cmp_total exact_unsigned (finite.get books.rates) (periods_of books (Redeem day payee ss)) (period_start held.bond.issued) h

-- what the view of an act shows gives the effects that the books give
pub seen_enough : (books : PlainBooks) (asked : Act) → effects_of (shown_by (view_of books asked)) asked ≡ effects_of (shown books) asked
seen_enough books (AddRates rows) = same_of_rates (shown_by (view_of books (AddRates rows))) (shown books) rows
    (all_map _ _ (λ row named. get_named nat_cmp_total exact_unsigned (finite.get books.rates) (map (λ r. r.from) rows) row.from named) rows (all_named nat_cmp_total (λ r. r.from) rows))
seen_enough books (AddBonds bonds) = same_of_bonds (shown_by (view_of books (AddBonds bonds))) (shown books) bonds
    (all_both _ _ bonds
    (all_map _ _ (λ x named. get_named nat_cmp_total exact_unsigned (finite.get books.rates) (map (λ x. period_start x.issued) bonds) (period_start x.issued) named) bonds (all_named nat_cmp_total (λ x. period_start x.issued) bonds))
    (all_map _ _ (λ x named. get_named serials_total exact_serials (held_of books) (map (λ x. x.serial) bonds) x.serial named) bonds (all_named serials_total (λ x. x.serial) bonds)))
seen_enough books (OpenDay day) = refl
seen_enough books (Redeem day payee ss) = redeem_enough books (open_batch books).bonds (open_batch books).total.0 day payee ss
seen_enough books (CloseDay day) = refl

-- ---- what the length of its list refuses
-- the first of two tests decides if it refuses
first_refuses : (one rest : Option Refusal) (refusal : Refusal) → one ≡ Some refusal → option_or one rest ≡ Some refusal
first_refuses (Some x) rest refusal e = e
first_refuses None rest refusal e = absurd (cc)

length_refuses : (seen : Seen) (asked : Act) (refusal : Refusal) → length_refusal asked ≡ Some refusal → refusal_of seen asked ≡ Some refusal
length_refuses seen (AddRates rows) refusal e = first_refuses (refusal_of_length most_rows (length rows)) _ refusal e
length_refuses seen (AddBonds bonds) refusal e = first_refuses (refusal_of_length most_rows (length bonds)) _ refusal e
length_refuses seen (OpenDay day) refusal e = absurd (cc)
length_refuses seen (Redeem day payee ss) refusal e = first_refuses (refusal_of_length most_serials (length ss)) _ refusal e
length_refuses seen (CloseDay day) refusal e = absurd (cc)

-- an act that the length of its list refuses is refused, whatever is seen
pub refused_by_length : (seen : Seen) (asked : Act) (refusal : Refusal) → length_refusal asked ≡ Some refusal
    → effects_of seen asked ≡ record { changes = []; reply = Refused refusal }
refused_by_length seen asked refusal e = ap (unless_refused seen asked) (length_refuses seen asked refusal e)

-- what the act is decided by gives the effects that the books give
within_enough : (books : PlainBooks) (asked : Act) → effects_of (shown_by (needed_within books asked)) asked ≡ effects_of (shown books) asked
within_enough books (AddRates rows) = seen_enough books (AddRates rows)
within_enough books (AddBonds bonds) = seen_enough books (AddBonds bonds)
within_enough books (OpenDay day) = refl
within_enough books (Redeem day payee ss) = redeem_enough books 0 0 day payee ss
within_enough books (CloseDay day) = refl

unless_enough : (books : PlainBooks) (asked : Act) (o : Option Refusal) → length_refusal asked ≡ o
    → effects_of (shown_by (needed_unless books asked o)) asked ≡ effects_of (shown books) asked
unless_enough books asked None is = within_enough books asked
unless_enough books asked (Some refusal) is = refused_by_length (shown_by no_view) asked refusal is ∙ sym (refused_by_length (shown books) asked refusal is)

pub needed_enough : (books : PlainBooks) (asked : Act) → effects_of (shown_by (needed_of books asked)) asked ≡ effects_of (shown books) asked
needed_enough books asked = unless_enough books asked (length_refusal asked) refl

-- it counts no more tickets than the books have
unless_few : (books : PlainBooks) (asked : Act) (o : Option Refusal) → (needed_unless books asked o).tickets ≤ length books.tickets
unless_few books asked None = omega arith
unless_few books asked (Some refusal) = omega arith

pub needed_few : (books : PlainBooks) (asked : Act) → (needed_of books asked).tickets ≤ length books.tickets
needed_few books asked = unless_few books asked (length_refusal asked)

-- ---- the changes give the books of the act
applied_rates : (books : PlainBooks) (rows : List RateRow) → applied books (map rate_change rows) ≡ record books { rates = with_rates books.rates rows }
applied_rates books [] = refl
applied_rates books (row ∷ rows) = applied_rates (record books { rates = finite.insert books.rates row.from row.rates }) rows

applied_bonds : (books : PlainBooks) (bonds : List Bond) → applied books (map change.Bond bonds) ≡ record books { bonds = with_bonds books.bonds bonds }
applied_bonds books [] = refl
applied_bonds books (bond ∷ bonds) = applied_bonds (record books { bonds = finite.insert books.bonds bond.serial bond }) bonds

applied_accepted : (books : PlainBooks) (asked : Act) → applied books (accepted (shown books) asked).changes ≡ done books asked
applied_accepted books (AddRates rows) = applied_rates books (new_rates (shown books) [] rows)
applied_accepted books (AddBonds bonds) = applied_bonds books (new_bonds (shown books) bonds)
applied_accepted books (OpenDay day) = refl
applied_accepted books (Redeem day payee ss) = refl
applied_accepted books (CloseDay day) = refl

applied_unless : (books : PlainBooks) (asked : Act) (o : Option Refusal) → applied books (unless_refused (shown books) asked o).changes ≡ acts.unless_refused books asked o
applied_unless books asked None = applied_accepted books asked
applied_unless books asked (Some refusal) = refl

-- the changes, one after the other, give the books of the act
pub applied_is : (books : PlainBooks) (asked : Act) → applied books (effects_of (shown_by (view_of books asked)) asked).changes ≡ books_after books asked
applied_is books asked = ap (λ (e : Effects). applied books e.changes) (seen_enough books asked) ∙ applied_unless books asked (refusal_of (shown books) asked)

-- one view, one effect
pub one_view : (one other : PlainBooks) (asked : Act) → view_of one asked ≡ view_of other asked → effects_of (shown one) asked ≡ effects_of (shown other) asked
one_view one other asked e = sym (seen_enough one asked) ∙ ap (λ (v : PlainView). effects_of (shown_by v) asked) e ∙ seen_enough other asked

-- what is needed gives the effect
pub one_need : (one other : PlainBooks) (asked : Act) → needed_of one asked ≡ needed_of other asked → effects_of (shown one) asked ≡ effects_of (shown other) asked
one_need one other asked e = sym (needed_enough one asked) ∙ ap (λ (v : PlainView). effects_of (shown_by v) asked) e ∙ needed_enough other asked
