-- The rows of parts of books, as the tables keep them.
use Rattle.std.specs.Prelude.{◌≡◌, ℕ, ◌+◌, List, [], ◌∷◌, map, length, flat_map, filter_map, Option, option_map}
use Rattle.ee_value.specs.declared.rates.RateRow.{RateRow}
use Rattle.ee_value.specs.Chain.{named_extension}
use Rattle.ee_calculator.specs.declared.bonds.Bond.{Bond}
use Rattle.ee_desk_model.specs.declared.changes.Held.{Held}
use Rattle.ee_desk_model.specs.declared.replies.Line.{Line}
use Rattle.ee_desk_model.specs.declared.replies.Ticket.{Ticket}
use Rattle.ee_desk_model.specs.declared.replies.Batch.{Batch}
use Rattle.ee_desk_model.specs.Seen.{held_as}
use Rattle.ee_desk_soundness.specs.Parts.{Parts}
use Rattle.ee_store_load.specs.declared.entries.StoredDesk.{StoredDesk}
use Rattle.ee_store_load.specs.declared.entries.StoredRate.{StoredRate}
use Rattle.ee_store_load.specs.declared.entries.StoredTicket.{StoredTicket}
use Rattle.ee_store_load.specs.declared.entries.StoredLine.{StoredLine}
use Rattle.ee_store_load.specs.declared.entries.StoredBatch.{StoredBatch}
use Rattle.ee_store_load.specs.declared.whole.AllRows.{AllRows}
use Rattle.ee_store_schema.specs.Forms.{version_of}

abbrev pub stored_desk : ℕ → Option ℕ → Option ℕ → StoredDesk
stored_desk version day last_day = record { id = 1; version = version; day = day; last_day = last_day }

abbrev pub stored_rate : RateRow → StoredRate
stored_rate row = record { period = row.from; rate = row.rates.fixed }

-- the extension of a period, in hundredths of a percent
abbrev pub extension_row : ℕ → ℕ → StoredRate
extension_row period extension = record { period = period; rate = extension }

-- its extension, if it differs from the fixed rate
abbrev pub stored_extension : RateRow → Option StoredRate
stored_extension row = option_map (extension_row row.from) (named_extension row.rates)

-- a bond, with the ticket that pays it
abbrev pub held_bond : List Ticket → Bond → Held
held_bond tickets bond = held_as tickets bond.serial bond

abbrev pub stored_ticket : Ticket → StoredTicket
stored_ticket ticket = record { ticket = ticket.ticket; day = ticket.day; payee = ticket.payee; bonds = length ticket.lines; total = ticket.total.0 }

abbrev pub stored_line : ℕ → ℕ → Line → StoredLine
stored_line ticket place line = record { ticket = ticket; place = place; letter = line.serial.letter; number = line.serial.number; cents = line.cents.0 }

-- the lines of a ticket, numbered from this place
abbrev pub placed_lines : ℕ → ℕ → List Line → List StoredLine
placed_lines ticket place [] = []
placed_lines ticket place (line ∷ lines) = stored_line ticket place line ∷ placed_lines ticket (place + 1) lines

abbrev pub stored_lines : Ticket → List StoredLine
stored_lines ticket = placed_lines ticket.ticket 1 ticket.lines

abbrev pub stored_batch : Batch → StoredBatch
stored_batch batch = record { day = batch.day; tickets = batch.tickets; bonds = batch.bonds; total = batch.total.0 }

-- the rows are those of these parts of books, in the version of their form
pub record AreRowsOf (parts : Parts) (stored : AllRows) : Type 0 where
  pub desk : stored.desk.items ≡ stored_desk (version_of stored.form) parts.day parts.last_day ∷ []
  pub rates : stored.rates.items ≡ map stored_rate parts.rates
  pub extensions : stored.extensions.items ≡ filter_map stored_extension parts.rates
  pub bonds : stored.bonds.items ≡ map (held_bond parts.tickets) parts.bonds
  pub tickets : stored.tickets.items ≡ map stored_ticket parts.tickets
  pub lines : stored.lines.items ≡ flat_map stored_lines parts.tickets
  pub batches : stored.batches.items ≡ map stored_batch parts.batches
