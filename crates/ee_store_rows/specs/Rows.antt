-- The rows of one bond, ticket, line and batch, and the key of a bond (this project's rule: version 2 of the tables, and version 1 before it).
use Rattle.std.specs.Prelude.{ℕ, length}
use Rattle.ee_units.specs.Spelling.{SerialNumber}
use Rattle.ee_units.specs.Denoms.{dollars}
use Rattle.ee_desk_model.specs.declared.changes.Held.{Held}
use Rattle.ee_desk_model.specs.declared.replies.Line.{Line}
use Rattle.ee_desk_model.specs.declared.replies.Ticket.{Ticket}
use Rattle.ee_desk_model.specs.declared.replies.Batch.{Batch}
use Rattle.ee_store_tables.specs.Rows.{BondRow, TicketRow, PaidRow, BatchRow}

abbrev pub key_of : SerialNumber → ℕ × ℕ
key_of serial = (serial.letter, serial.number)

abbrev pub bond_row : Held → BondRow
bond_row held = record {
  denom = dollars held.bond.denom;
  issued = held.bond.issued;
  owner = held.bond.owner;
  coowner = held.bond.coowner;
  ticket = held.ticket;
}

abbrev pub ticket_row : Ticket → TicketRow
ticket_row ticket = record { day = ticket.day; payee = ticket.payee; bonds = length ticket.lines; total = ticket.total.0 }

abbrev pub paid_row : Line → PaidRow
paid_row line = record { letter = line.serial.letter; number = line.serial.number; cents = line.cents.0 }

abbrev pub batch_row : Batch → BatchRow
batch_row batch = record { tickets = batch.tickets; bonds = batch.bonds; total = batch.total.0 }
