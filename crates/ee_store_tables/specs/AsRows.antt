-- Rows as the code has them.
use Rattle.std.specs.Prelude.{string_bytes, ℕ, ◌<◌, ◌^◌, None, IfSome, [], ◌∷◌}
use Rattle.sqlite.specs.Order.{Row}
use Rattle.ee_store_tables.specs.declared.records.DeskRow as code_desk
use Rattle.ee_store_tables.specs.declared.records.PeriodRate.{PeriodRate}
use Rattle.ee_store_tables.specs.declared.records.SerialKey.{SerialKey}
use Rattle.ee_store_tables.specs.declared.records.BondRow as code_bond
use Rattle.ee_store_tables.specs.declared.records.UnpaidBond.{UnpaidBond}
use Rattle.ee_store_tables.specs.declared.records.TicketRow as code_ticket
use Rattle.ee_store_tables.specs.declared.records.TicketSum.{TicketSum}
use Rattle.ee_store_tables.specs.declared.records.PlacedLine.{PlacedLine}
use Rattle.ee_store_tables.specs.declared.records.PaidRow as code_line
use Rattle.ee_store_tables.specs.declared.records.BatchRow as code_batch
use Rattle.ee_store_tables.specs.declared.records.ReplyRow as code_entry
use Rattle.ee_store_tables.specs.Rows.{number, optional, DeskRow, BondRow, TicketRow, PaidRow, BatchRow, ReplyRow}

abbrev pub row_of_desk : code_desk.DeskRow → DeskRow
row_of_desk desk = record { version = desk.version; day = desk.day; last_day = desk.last_day }

abbrev pub key_of : SerialKey → ℕ × ℕ
key_of serial = (serial.letter, serial.number)

abbrev pub row_of_bond : code_bond.BondRow → BondRow
row_of_bond bond = record { denom = bond.denom; issued = bond.issued; owner = bond.owner; coowner = bond.coowner; ticket = bond.ticket }

abbrev pub key_of_unpaid : UnpaidBond → ℕ × ℕ
key_of_unpaid bond = (bond.letter, bond.number)

abbrev pub row_of_unpaid : UnpaidBond → BondRow
row_of_unpaid bond = record { denom = bond.denom; issued = bond.issued; owner = bond.owner; coowner = bond.coowner; ticket = None }

abbrev pub entry_of_unpaid : UnpaidBond → (ℕ × ℕ) × BondRow
entry_of_unpaid bond = (key_of_unpaid bond, row_of_unpaid bond)

abbrev pub entry_of_rate : PeriodRate → ℕ × ℕ
entry_of_rate rate = (rate.period, rate.rate)

abbrev pub row_of_ticket : code_ticket.TicketRow → TicketRow
row_of_ticket ticket = record { day = ticket.day; payee = ticket.payee; bonds = ticket.bonds; total = ticket.total }

abbrev pub row_of_line : code_line.PaidRow → PaidRow
row_of_line line = record { letter = line.letter; number = line.number; cents = line.cents }

abbrev pub row_of_batch : code_batch.BatchRow → BatchRow
row_of_batch batch = record { tickets = batch.tickets; bonds = batch.bonds; total = batch.total }

abbrev pub row_of_reply : code_entry.ReplyRow → ReplyRow
row_of_reply entry = record { act = string_bytes entry.act; reply = string_bytes entry.reply }

-- ---- rows that queries show

abbrev pub sum_of : ℕ × TicketRow → TicketSum
sum_of e = record { ticket = e.0; bonds = e.1.bonds; total = e.1.total }

abbrev pub sum_columns : TicketSum → Row
sum_columns s = number s.ticket ∷ number s.bonds ∷ number s.total ∷ []

abbrev pub placed_of : (ℕ × ℕ) × PaidRow → PlacedLine
placed_of e = record { place = e.0.1; letter = e.1.letter; number = e.1.number; cents = e.1.cents }

abbrev pub placed_columns : PlacedLine → Row
placed_columns line = number line.place ∷ number line.letter ∷ number line.number ∷ number line.cents ∷ []

abbrev pub unpaid_bond_of : (ℕ × ℕ) × BondRow → UnpaidBond
unpaid_bond_of e = record { letter = e.0.0; number = e.0.1; denom = e.1.denom; issued = e.1.issued; owner = e.1.owner; coowner = e.1.coowner }

abbrev pub unpaid_columns : UnpaidBond → Row
unpaid_columns bond = number bond.letter ∷ number bond.number ∷ number bond.denom ∷ number bond.issued ∷ number bond.owner ∷ optional bond.coowner ∷ []

-- ---- the numbers that a column of whole numbers holds: less than 2 to the 63rd

abbrev pub Fits : ℕ → Type 0
Fits n = n < 2 ^ 63

abbrev pub FitsSerial : SerialKey → Type 0
FitsSerial serial = Fits serial.letter × Fits serial.number

abbrev pub FitsUnpaid : UnpaidBond → Type 0
FitsUnpaid bond = Fits bond.letter × Fits bond.number × Fits bond.denom × Fits bond.issued × Fits bond.owner × IfSome bond.coowner Fits

abbrev pub FitsRate : PeriodRate → Type 0
FitsRate rate = Fits rate.period × Fits rate.rate

abbrev pub FitsTicket : code_ticket.TicketRow → Type 0
FitsTicket ticket = Fits ticket.day × Fits ticket.payee × Fits ticket.bonds × Fits ticket.total

abbrev pub FitsLine : code_line.PaidRow → Type 0
FitsLine line = Fits line.letter × Fits line.number × Fits line.cents

abbrev pub FitsBatch : code_batch.BatchRow → Type 0
FitsBatch batch = Fits batch.tickets × Fits batch.bonds × Fits batch.total
