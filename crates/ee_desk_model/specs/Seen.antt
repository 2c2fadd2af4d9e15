-- What an act sees of the books.
use Rattle.std.specs.Prelude.{ℕ, suc, List, Option, map, length, sum_by}
use Rattle.std.specs.Option.{option_map, option_map_or}
use Rattle.std.specs.FinMap as finite
use Rattle.ee_units.specs.Spelling.{SerialNumber}
use Rattle.ee_calculator.specs.declared.bonds.Bond.{Bond}
use Rattle.ee_desk_model.specs.declared.changes.Held.{Held}
use Rattle.ee_desk_model.specs.declared.replies.Line.{Line}
use Rattle.ee_desk_model.specs.declared.replies.Batch.{Batch}
use Rattle.ee_desk_model.specs.declared.replies.Ticket.{Ticket}
use Rattle.ee_units.specs.Calendar.{month_of_day, period_start}
use Rattle.ee_desk_model.specs.Values.{value_of}
use Rattle.ee_value.specs.declared.rates.Rates.{Rates}
use Rattle.ee_desk_model.specs.PlainBooks.{PlainBooks, ticket_of, batch_so_far, cents_of}

pub record Seen : Type 0 where
  pub rate : ℕ → Option Rates  -- by period
  pub held : SerialNumber → Option Held  -- a registered bond, and the ticket that paid it
  pub day : Option ℕ  -- the open day
  pub last_day : Option ℕ  -- the last closed day
  pub tickets : ℕ  -- how many over all days
  pub day_tickets : ℕ  -- those of the open day
  pub day_bonds : ℕ
  pub day_total : ℕ

-- a registered bond, with the ticket that paid it
abbrev pub held_as : List Ticket → SerialNumber → Bond → Held
held_as tickets serial bond = record { bond = bond; ticket = ticket_of tickets serial }

abbrev pub held_of : PlainBooks → SerialNumber → Option Held
held_of books serial = option_map (held_as books.tickets serial) (finite.get books.bonds serial)

-- the tickets of the open day, as a batch
abbrev pub open_batch : PlainBooks → Batch
open_batch books = batch_so_far books.day books.tickets

-- everything that the books show
abbrev pub shown : PlainBooks → Seen
shown books = record {
  rate = finite.get books.rates;
  held = held_of books;
  day = books.day;
  last_day = books.last_day;
  tickets = length books.tickets;
  day_tickets = (open_batch books).tickets;
  day_bonds = (open_batch books).bonds;
  day_total = (open_batch books).total.0;
}

abbrev pub rate_of : Seen → Bond → Option Rates
rate_of seen bond = seen.rate (period_start bond.issued)

-- the value of a bond in a month, at the rates that are seen
abbrev pub value_in : Seen → ℕ → Bond → ℕ
value_in seen month bond = option_map_or (λ rates. value_of rates bond month) (rate_of seen bond) 0

-- the value of the bond with this serial number
abbrev pub worth : Seen → ℕ → SerialNumber → ℕ
worth seen month serial = option_map_or (λ held. value_in seen month held.bond) (seen.held serial) 0

abbrev pub line_for : Seen → ℕ → SerialNumber → Line
line_for seen month serial = record { serial = serial; cents = record { 0 = worth seen month serial } }

-- the next ticket, which pays these serial numbers
abbrev pub ticket_for : Seen → ℕ → ℕ → List SerialNumber → Ticket
ticket_for seen day payee serials =
    let lines = map (line_for seen (month_of_day day)) serials in
    record { ticket = suc seen.tickets; day = day; payee = payee; lines = lines; total = record { 0 = sum_by cents_of lines } }

-- the batch that closes the open day
abbrev pub closing_batch : Seen → ℕ → Batch
closing_batch seen day = record { day = day; tickets = seen.day_tickets; bonds = seen.day_bonds; total = record { 0 = seen.day_total } }
