-- What a desk keeps, as plain lists and finite maps, without kept replies. A bond is paid if a ticket names it (this project's rule).
use Rattle.std.specs.Prelude.{ℕ, Bool, ◌&&◌, ◌==◌, nat_eq, List, [], Option, Some, None, find, length, filter, sum_by}
use Rattle.std.specs.List.{list_any}
use Rattle.std.specs.Option.{option_map, option_eq}
use Rattle.std.specs.FinMap as finite
use Rattle.std.specs.FinMap.{FinMap}
use Rattle.std.specs.Ordering.{nat_cmp}
use Rattle.ee_units.specs.Spelling.{SerialNumber}
use Rattle.ee_calculator.specs.declared.bonds.Bond.{Bond}
use Rattle.ee_desk_model.specs.declared.replies.Line.{Line}
use Rattle.ee_desk_model.specs.declared.replies.Ticket.{Ticket}
use Rattle.ee_desk_model.specs.declared.replies.Batch.{Batch}
use Rattle.ee_desk_model.specs.Serials.{serial_cmp, same_serial}
use Rattle.ee_units.specs.Denoms.{dollars}
use Rattle.ee_units.specs.declared.denoms.Denom.{Denom}
use Rattle.ee_value.specs.declared.rates.Rates.{Rates}

pub record PlainBooks : Type 0 where
  pub rates : FinMap nat_cmp Rates  -- by period
  pub bonds : FinMap serial_cmp Bond  -- by serial
  pub day : Option ℕ  -- the open day
  pub last_day : Option ℕ  -- the last closed day
  pub tickets : List Ticket  -- in order of number
  pub batches : List Batch  -- in order of day

abbrev pub no_books : PlainBooks
no_books = record { rates = finite.empty; bonds = finite.empty; day = None; last_day = None; tickets = []; batches = [] }

-- the ticket pays this serial number
abbrev pub names : SerialNumber → Ticket → Bool
names serial ticket = list_any (λ line. same_serial serial line.serial) ticket.lines

-- the number of the ticket that pays a serial number
abbrev pub ticket_of : List Ticket → SerialNumber → Option ℕ
ticket_of tickets serial = option_map (λ ticket. ticket.ticket) (find (names serial) tickets)

abbrev pub cents_of : Line → ℕ
cents_of line = line.cents.0

abbrev pub total_of : Ticket → ℕ
total_of ticket = ticket.total.0

abbrev pub bonds_on : Ticket → ℕ
bonds_on ticket = length ticket.lines

-- the tickets of a day
abbrev pub of_day : ℕ → List Ticket → List Ticket
of_day day tickets = filter (λ ticket. ticket.day == day) tickets

-- the batch of a day's tickets
abbrev pub batch_of : ℕ → List Ticket → Batch
batch_of day tickets =
    let own = of_day day tickets in
    record { day = day; tickets = length own; bonds = sum_by bonds_on own; total = record { 0 = sum_by total_of own } }

abbrev pub no_batch : Batch
no_batch = record { day = 0; tickets = 0; bonds = 0; total = record { 0 = 0 } }

-- the batch of the open day's tickets so far; zeros if no day is open
abbrev pub batch_so_far : Option ℕ → List Ticket → Batch
batch_so_far None tickets = no_batch
batch_so_far (Some day) tickets = batch_of day tickets

abbrev pub same_denom : Denom → Denom → Bool
same_denom a b = dollars a == dollars b

-- two bonds have the same content
abbrev pub same_bond : Bond → Bond → Bool
same_bond a b = same_serial a.serial b.serial && same_denom a.denom b.denom && (a.issued == b.issued) && (a.owner == b.owner) && option_eq nat_eq a.coowner b.coowner
