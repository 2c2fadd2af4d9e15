-- The rows that a delivery writes are those of the content after it.
use Rattle.std.proofs.Common.{◌≡◌, ℕ, suc, ◌+◌, List, [], ◌∷◌, ◌++◌, map, length, arith, refl, sym, ap, ◌∙◌, subst, append-nil}
use Rattle.std.specs.Prelude.{Option, Some, None}
use Rattle.std.specs.Option.{option_map, option_and_then}
use Rattle.std.specs.Ordering.{nat_cmp}
use Rattle.ee_units.specs.Spelling.{SerialNumber}
use Rattle.ee_desk_model.specs.Serials.{serial_cmp}
use Rattle.std.specs.declared.cmp.Ordering.{Ordering}
use Rattle.std.specs.FinMap as finite
use Rattle.std.specs.FinMap.{FinMap, insert}
use Rattle.ee_value.specs.declared.rates.Rates.{Rates}
use Rattle.ee_value.specs.Chain.{named_extension}
use Rattle.ee_calculator.specs.declared.bonds.Bond.{Bond}
use Rattle.ee_desk_model.specs.Seen.{held_as}
use Rattle.std.specs.List.{AllByRecursion}
use Rattle.std.proofs.lemmas.List.{map-append}
use Rattle.std.proofs.lemmas.Option.{same_Some}
use Rattle.ee_desk_model.specs.declared.changes.Change.{Change}
use Rattle.ee_desk_model.specs.declared.changes.Change.TheVariants as change
use Rattle.ee_desk_model.specs.declared.replies.Ticket.{Ticket}
use Rattle.ee_desk_model.specs.declared.replies.Batch.{Batch}
use Rattle.ee_desk_model.specs.PlainBooks.{PlainBooks, ticket_of}
use Rattle.ee_desk_model.specs.Acts.{changed, applied}
use Rattle.ee_desk_model.specs.Sound.{IsSound, NumberedFrom, day_of_batch}
use Rattle.ee_desk_model.specs.Lists.{Rising}
use Rattle.ee_desk_model.specs.Repeats.{Content}
use Rattle.ee_desk_model.proofs.Lemmas.Maps.{rising_below}
use Rattle.ee_store_books.proofs.Lemmas.Contents.{get_rate_row, get_extension_row, get_bond_row, get_desk_row}
use Rattle.ee_desk_decide.specs.Inner.NewRows as added
use Rattle.ee_desk_decide.specs.Inner.NewRows.{AreNew}
use Rattle.ee_desk_decide.specs.Inner.Applicable.{IsRate, IsBond, IsUnpaid, AreApplicable}
use Rattle.ee_store_tables.specs.Rows.{Rows, DeskRow, insert_new, day_set, with_rate, with_batch, with_ticket}
use Rattle.ee_store_rows.specs.Rows.{bond_row, key_of, ticket_row, batch_row}
use Rattle.ee_store_books.specs.Standing.{rate_rows, extension_rows, bond_rows, desk_rows, rows_of}
use Rattle.ee_store_delivery.specs.Inner.Written.{with_named, applied_rows}
use Rattle.ee_store_delivery.proofs.Changes.{with_new_rate, with_no_extension, with_new_extension, with_new_bond, with_other_days, with_new_ticket, with_new_lines, with_new_marks, with_new_batch, lines_parts}

abbrev pub with_books : Content → PlainBooks → Content
with_books S books = record { books = books; kept = S.kept }

abbrev IsWritten : Content → List Change → Type 0
IsWritten S cs = rows_of (with_books S (applied S.books cs)) ≡ applied_rows S.books.last_day (rows_of S) cs

-- ---- rates
put_new : {K X : Type 0} {R : K → K → Ordering} (m : FinMap R X) (k : K) (x : X) (o : Option X) → o ≡ None → insert m k x ≡ insert_new m k x o
put_new m k x None none = refl
put_new m k x (Some y) none = absurd (cc)

no_rate : (rates : FinMap nat_cmp Rates) (from : ℕ) → finite.get rates from ≡ None → finite.get (rate_rows rates) from ≡ None
no_rate rates from none = get_rate_row rates from ∙ ap (option_map (λ rates. rates.fixed)) none

rate_written : (rates : FinMap nat_cmp Rates) (from : ℕ) (r : Rates) → finite.get rates from ≡ None
    → rate_rows (insert rates from r) ≡ insert_new (rate_rows rates) from r.fixed (finite.get (rate_rows rates) from)
rate_written rates from r none = with_new_rate rates from r ∙ put_new (rate_rows rates) from r.fixed _ (no_rate rates from none)

no_extension : (rates : FinMap nat_cmp Rates) (from : ℕ) → finite.get rates from ≡ None → finite.get (extension_rows rates) from ≡ None
no_extension rates from none = get_extension_row rates from ∙ ap (option_and_then named_extension) none

-- the rows of the books with the terms of a period that had none
terms_written : (rows : Rows) (rates : FinMap nat_cmp Rates) (from : ℕ) (r : Rates) (o : Option ℕ) → named_extension r ≡ o → finite.get rates from ≡ None
    → record rows { rates = rate_rows (insert rates from r); extensions = extension_rows (insert rates from r) }
    ≡ with_named (with_rate (record rows { rates = rate_rows rates; extensions = extension_rows rates }) (from, r.fixed)) from o
terms_written rows rates from r None is none = λ i. record rows { rates = rate_written rates from r none i; extensions = with_no_extension rates from r none is i }
terms_written rows rates from r (Some e) is none = λ i. record rows {
  rates = rate_written rates from r none i;
  extensions = (with_new_extension rates from r e is ∙ put_new (extension_rows rates) from e _ (no_extension rates from none)) i;
}

rates_written : (S : Content) (cs : List Change) → AllByRecursion IsRate cs → AreNew added.rate_row S.books.rates cs → IsWritten S cs
rates_written S [] h new = refl
rates_written S (change.Rates from rates ∷ cs) h new =
    rates_written (with_books S (changed S.books (change.Rates from rates))) cs h.1 new.1
    ∙ ap (λ rows. applied_rows S.books.last_day rows cs) (terms_written (rows_of S) S.books.rates from rates _ refl new.0)
rates_written S (change.Bond bond ∷ cs) h new = absurd h.0
rates_written S (change.Day day ∷ cs) h new = absurd h.0
rates_written S (change.Ticket ticket ∷ cs) h new = absurd h.0
rates_written S (change.Batch batch ∷ cs) h new = absurd h.0

-- ---- bonds
no_bond : (bonds : FinMap serial_cmp Bond) (tickets : List Ticket) (s : SerialNumber) → finite.get bonds s ≡ None → finite.get (bond_rows bonds tickets) (key_of s) ≡ None
no_bond bonds tickets s none = get_bond_row bonds tickets s ∙ ap (option_map (λ bond. bond_row (held_as tickets s bond))) none

bond_written : (bonds : FinMap serial_cmp Bond) (tickets : List Ticket) (bond : Bond) → finite.get bonds bond.serial ≡ None → ticket_of tickets bond.serial ≡ None
    → bond_rows (insert bonds bond.serial bond) tickets ≡ insert_new (bond_rows bonds tickets) (key_of bond.serial) (bond_row (record { bond = bond; ticket = None })) (finite.get (bond_rows bonds tickets) (key_of bond.serial))
bond_written bonds tickets bond none unpaid =
    with_new_bond bonds tickets bond.serial bond unpaid
    ∙ put_new (bond_rows bonds tickets) (key_of bond.serial) (bond_row (record { bond = bond; ticket = None })) _ (no_bond bonds tickets bond.serial none)

bonds_written : (S : Content) (cs : List Change) → AllByRecursion IsBond cs → AreNew added.bond_row S.books.bonds cs → AllByRecursion (IsUnpaid S.books) cs → IsWritten S cs
bonds_written S [] h new unpaid = refl
bonds_written S (change.Bond bond ∷ cs) h new unpaid =
    bonds_written (with_books S (changed S.books (change.Bond bond))) cs h.1 new.1 unpaid.1
    ∙ ap (λ rows. applied_rows S.books.last_day rows cs) (λ i. record (rows_of S) { bonds = bond_written S.books.bonds S.books.tickets bond new.0 unpaid.0 i })
bonds_written S (change.Rates from rates ∷ cs) h new unpaid = absurd h.0
bonds_written S (change.Day day ∷ cs) h new unpaid = absurd h.0
bonds_written S (change.Ticket ticket ∷ cs) h new unpaid = absurd h.0
bonds_written S (change.Batch batch ∷ cs) h new unpaid = absurd h.0

-- ---- days
days_set : (rows : Rows) (day last_day old_day old_last : Option ℕ) (o : Option DeskRow) → o ≡ Some (record { version = 2; day = old_day; last_day = old_last })
    → record rows { desk = insert rows.desk 1 (record { version = 2; day = day; last_day = last_day }) } ≡ day_set rows day last_day o
days_set rows day last_day old_day old_last None is = absurd (cc)
days_set rows day last_day old_day old_last (Some desk) is =
    ap (λ (d : DeskRow). record rows { desk = insert rows.desk 1 (record d { day = day; last_day = last_day }) }) (sym (same_Some desk _ is))

days_written : (rows : Rows) (day last_day old_day old_last : Option ℕ) → rows.desk ≡ desk_rows 2 old_day old_last
    → record rows { desk = desk_rows 2 day last_day } ≡ day_set rows day last_day (finite.get rows.desk 1)
days_written rows day last_day old_day old_last is =
    (λ i. record rows { desk = (with_other_days old_day old_last day last_day ∙ ap (λ desk. insert desk 1 (record { version = 2; day = day; last_day = last_day })) (sym is)) i })
    ∙ days_set rows day last_day old_day old_last (finite.get rows.desk 1) (ap (λ desk. finite.get desk 1) is ∙ get_desk_row 2 old_day old_last)

-- ---- a ticket
numbered_front : (n : ℕ) (tickets more : List Ticket) → NumberedFrom n (tickets ++ more) → NumberedFrom n tickets
numbered_front n [] more h = tt
numbered_front n (t ∷ tickets) more h = (h.0, numbered_front (suc n) tickets more h.1)

numbered_last : (n : ℕ) (tickets : List Ticket) (t : Ticket) → NumberedFrom n (tickets ++ t ∷ []) → t.ticket ≡ length tickets + n
numbered_last n [] t h = let is = h.0 in omega (arith, is)
numbered_last n (u ∷ tickets) t h = let rest = numbered_last (suc n) tickets t h.1 in omega (arith, rest)

ticket_written : (S : Content) (t : Ticket) → NumberedFrom 1 (S.books.tickets ++ t ∷ []) → AllByRecursion (λ line. ticket_of S.books.tickets line.serial ≡ None) t.lines → IsWritten S (change.Ticket t ∷ [])
ticket_written S t numbered unpaid =
    let tickets = S.books.tickets in
    let front = numbered_front 1 tickets (t ∷ []) numbered in
    let next = numbered_last 1 tickets t numbered in
    (λ i. record (rows_of S) {
      tickets = with_new_ticket tickets t front next i;
      paid = with_new_lines tickets t front next i;
      bonds = with_new_marks S.books.bonds tickets t unpaid i;
    }) ∙ sym (lines_parts (with_ticket (rows_of S) t.ticket (ticket_row t)) t.ticket 1 t.lines)

-- ---- a batch
batch_written : (S : Content) (b : Batch) → Rising (map day_of_batch (S.books.batches ++ b ∷ []) ++ []) → IsWritten S (change.Batch b ∷ [])
batch_written S b rising =
    let days = append-nil (map day_of_batch (S.books.batches ++ b ∷ [])) ∙ map-append day_of_batch S.books.batches (b ∷ []) in
    let later = rising_below (map day_of_batch S.books.batches) b.day (subst Rising days rising) in
    (λ i. record (rows_of S) { desk = desk_rows 2 None (Some b.day); batches = with_new_batch S.books.batches b later i })
    ∙ days_written (with_batch (rows_of S) b.day (batch_row b)) None (Some b.day) S.books.day S.books.last_day refl

pub written : (S : Content) (cs : List Change) → IsSound (applied S.books cs) → AreApplicable S.books cs → IsWritten S cs
written S [] after fits = refl
written S (change.Rates from rates ∷ cs) after fits = rates_written S (change.Rates from rates ∷ cs) (tt, fits.0) fits.1
written S (change.Bond bond ∷ cs) after fits = bonds_written S (change.Bond bond ∷ cs) (tt, fits.0) fits.1 fits.2
written S (change.Day day ∷ []) after fits = days_written (rows_of S) (Some day) S.books.last_day S.books.day S.books.last_day refl
written S (change.Day day ∷ c ∷ cs) after fits = absurd (cc)
written S (change.Ticket ticket ∷ []) after fits = ticket_written S ticket after.numbered fits.1.0
written S (change.Ticket ticket ∷ c ∷ cs) after fits = absurd (cc)
written S (change.Batch batch ∷ []) after fits = batch_written S batch after.rising
written S (change.Batch batch ∷ c ∷ cs) after fits = absurd (cc)
