-- The part of the books that an act names.
use Rattle.std.specs.Prelude.{ℕ, List, [], map, Option, Some, None}
use Rattle.std.specs.Option.{option_map}
use Rattle.std.specs.List.{filter_map}
use Rattle.std.specs.FinMap as finite
use Rattle.std.specs.FinMap.{FinMap}
use Rattle.std.specs.Ordering.{nat_cmp}
use Rattle.std.specs.declared.cmp.Ordering.{Ordering}
use Rattle.ee_units.specs.Spelling.{SerialNumber}
use Rattle.ee_desk_model.specs.declared.changes.Held.{Held}
use Rattle.ee_desk_model.specs.declared.replies.Batch.{Batch}
use Rattle.ee_desk_model.specs.declared.acts.Act.{Act}
use Rattle.ee_desk_model.specs.declared.refusals.Refusal.{Refusal}
use Rattle.ee_desk_model.specs.declared.acts.Act.TheVariants.{AddRates, AddBonds, OpenDay, Redeem, CloseDay}
use Rattle.ee_desk_model.specs.Serials.{serial_cmp}
use Rattle.ee_units.specs.Calendar.{period_start}
use Rattle.ee_value.specs.declared.rates.Rates.{Rates}
use Rattle.ee_desk_model.specs.PlainBooks.{PlainBooks, no_batch}
use Rattle.ee_desk_model.specs.Seen.{Seen, shown, held_of, open_batch}
use Rattle.ee_desk_model.specs.Refusals.{length_refusal}

pub record PlainView : Type 0 where
  pub rates : FinMap nat_cmp Rates
  pub bonds : FinMap serial_cmp Held
  pub day : Option ℕ
  pub last_day : Option ℕ
  pub tickets : ℕ
  pub day_tickets : ℕ
  pub day_bonds : ℕ
  pub day_total : ℕ

-- what a view shows
abbrev pub shown_by : PlainView → Seen
shown_by view = record {
  rate = finite.get view.rates;
  held = finite.get view.bonds;
  day = view.day;
  last_day = view.last_day;
  tickets = view.tickets;
  day_tickets = view.day_tickets;
  day_bonds = view.day_bonds;
  day_total = view.day_total;
}

-- the entries for these keys
abbrev pub entry_of : {K V : Type 0} → (K → Option V) → K → Option (K × V)
entry_of look key = option_map (λ value. (key, value)) (look key)

abbrev pub picked : {K V : Type 0} {R : K → K → Ordering} → (K → Option V) → List K → FinMap R V
picked look keys = finite.from_entries (filter_map (entry_of look) keys)

abbrev pub serials_of : Act → List SerialNumber
serials_of (AddBonds bonds) = map (λ bond. bond.serial) bonds
serials_of (Redeem day payee serials) = serials
serials_of (AddRates rows) = []
serials_of (OpenDay day) = []
serials_of (CloseDay day) = []

abbrev pub period_of_held : Held → ℕ
period_of_held held = period_start held.bond.issued

-- the months of the rows, or the issue periods of the rows or of the registered bonds that are named
abbrev pub periods_of : PlainBooks → Act → List ℕ
periods_of books (AddRates rows) = map (λ row. row.from) rows
periods_of books (AddBonds bonds) = map (λ bond. period_start bond.issued) bonds
periods_of books (Redeem day payee serials) = filter_map (λ serial. option_map period_of_held (held_of books serial)) serials
periods_of books (OpenDay day) = []
periods_of books (CloseDay day) = []

-- the open day's tickets, for the acts that count them
abbrev pub counted : PlainBooks → Act → Batch
counted books (Redeem day payee serials) = open_batch books
counted books (CloseDay day) = open_batch books
counted books (AddRates rows) = no_batch
counted books (AddBonds bonds) = no_batch
counted books (OpenDay day) = no_batch

abbrev pub view_of : PlainBooks → Act → PlainView
view_of books asked = record {
  rates = picked (finite.get books.rates) (periods_of books asked);
  bonds = picked (held_of books) (serials_of asked);
  day = books.day;
  last_day = books.last_day;
  tickets = (shown books).tickets;
  day_tickets = (counted books asked).tickets;
  day_bonds = (counted books asked).bonds;
  day_total = (counted books asked).total.0;
}

-- the counts that an act depends on: a redemption depends on how many tickets the day has, and not on what they pay
abbrev pub needed_counts : PlainBooks → Act → Batch
needed_counts books (Redeem day payee serials) = record no_batch { tickets = (open_batch books).tickets }
needed_counts books (CloseDay day) = open_batch books
needed_counts books (AddRates rows) = no_batch
needed_counts books (AddBonds bonds) = no_batch
needed_counts books (OpenDay day) = no_batch

-- a view that shows nothing
abbrev pub no_view : PlainView
no_view = record {
  rates = finite.empty;
  bonds = finite.empty;
  day = None;
  last_day = None;
  tickets = 0;
  day_tickets = 0;
  day_bonds = 0;
  day_total = 0;
}

-- what an act depends on whose list is neither empty nor too long
abbrev pub needed_within : PlainBooks → Act → PlainView
needed_within books asked = record (view_of books asked) {
  day_tickets = (needed_counts books asked).tickets;
  day_bonds = (needed_counts books asked).bonds;
  day_total = (needed_counts books asked).total.0;
}

abbrev pub needed_unless : PlainBooks → Act → Option Refusal → PlainView
needed_unless books asked (Some refusal) = no_view
needed_unless books asked None = needed_within books asked

-- what an act depends on: nothing of the books if the length of its list refuses it
abbrev pub needed_of : PlainBooks → Act → PlainView
needed_of books asked = needed_unless books asked (length_refusal asked)
