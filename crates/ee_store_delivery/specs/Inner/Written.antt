-- The rows after changes to the books.
use Rattle.std.specs.Prelude.{◌≡◌, ◌≤◌, ⊤, ℕ, ◌+◌, List, [], ◌∷◌, take, map, length, Option, Some, None, IfSome}
use Rattle.std.specs.List.{AllByRecursion}
use Rattle.std.specs.FinMap.{get}
use Rattle.ee_value.specs.Chain.{named_extension}
use Rattle.ee_desk_model.specs.declared.changes.Change.{Change}
use Rattle.ee_desk_model.specs.declared.changes.Change.TheVariants as change
use Rattle.ee_desk_model.specs.declared.replies.Ticket.{Ticket}
use Rattle.ee_desk_model.specs.declared.replies.Batch.{Batch}
use Rattle.ee_calculator.specs.declared.bonds.Bond.{Bond}
use Rattle.ee_store_tables.specs.declared.records.UnpaidBond.{UnpaidBond}
use Rattle.ee_store_tables.specs.AsRows.{Fits, entry_of_unpaid}
use Rattle.ee_store_tables.specs.Rows.{Rows, BondRow, with_rate, with_extension, with_bond, with_day, with_batch, with_ticket, with_lines, CanPayAll}
use Rattle.ee_store_rows.specs.Rows.{key_of, bond_row, ticket_row, paid_row, batch_row}

-- the rows with the extension of a period, if there is one
abbrev pub with_named : Rows → ℕ → Option ℕ → Rows
with_named rows from None = rows
with_named rows from (Some extension) = with_extension rows (from, extension)

-- the rows after one change, given the last closed day
abbrev pub changed_rows : Option ℕ → Rows → Change → Rows
changed_rows last_day rows (change.Rates from rates) = with_named (with_rate rows (from, rates.fixed)) from (named_extension rates)
changed_rows last_day rows (change.Bond bond) = with_bond rows (key_of bond.serial, bond_row (record { bond = bond; ticket = None }))
changed_rows last_day rows (change.Day day) = with_day rows (Some day) last_day
changed_rows last_day rows (change.Ticket ticket) = with_lines (with_ticket rows ticket.ticket (ticket_row ticket)) ticket.ticket 1 (map paid_row ticket.lines)
changed_rows last_day rows (change.Batch batch) = with_day (with_batch rows batch.day (batch_row batch)) None (Some batch.day)

-- the rows after changes, applied in order
abbrev pub applied_rows : Option ℕ → Rows → List Change → Rows
applied_rows last_day rows [] = rows
applied_rows last_day rows (change ∷ changes) = applied_rows last_day (changed_rows last_day rows change) changes

-- ---- what can be written

-- a ticket with a new number and amounts that fit, with at most 100 lines for unpaid bonds
pub record CanPayTicket (rows : Rows) (ticket : Ticket) : Type 0 where
  pub number : Fits ticket.ticket
  pub total : Fits ticket.total.0
  pub few : length ticket.lines ≤ 100
  pub cents : AllByRecursion (λ line. Fits line.cents.0) ticket.lines
  pub new : get rows.tickets ticket.ticket ≡ None
  pub unpaid : CanPayAll (with_ticket rows ticket.ticket (ticket_row ticket)) ticket.ticket 1 (map paid_row ticket.lines)

-- the batch of a day without a batch, whose sums fit
pub record CanClose (rows : Rows) (batch : Batch) : Type 0 where
  pub tickets : Fits batch.tickets
  pub bonds : Fits batch.bonds
  pub total : Fits batch.total.0
  pub new : get rows.batches batch.day ≡ None

-- the change can be written, given the last closed day
abbrev pub CanWrite : Option ℕ → Rows → Change → Type 0
CanWrite last_day rows (change.Rates from rates) = ⊤
CanWrite last_day rows (change.Bond bond) = get rows.bonds (key_of bond.serial) ≡ None
CanWrite last_day rows (change.Day day) = IfSome last_day Fits
CanWrite last_day rows (change.Ticket ticket) = CanPayTicket rows ticket
CanWrite last_day rows (change.Batch batch) = CanClose rows batch

-- changes can be written, applied in order
abbrev pub CanWriteAll : Option ℕ → Rows → List Change → Type 0
CanWriteAll last_day rows [] = ⊤
CanWriteAll last_day rows (change ∷ changes) = CanWrite last_day rows change × CanWriteAll last_day (changed_rows last_day rows change) changes

-- ---- bonds that are registered together

-- the row of a bond that no ticket pays, under its serial number
abbrev pub new_entry : Bond → (ℕ × ℕ) × BondRow
new_entry bond = (key_of bond.serial, bond_row (record { bond = bond; ticket = None }))

-- that of the bond that a change adds
abbrev pub added_entry : Change → Option ((ℕ × ℕ) × BondRow)
added_entry (change.Rates from rates) = None
added_entry (change.Bond bond) = Some (new_entry bond)
added_entry (change.Day day) = None
added_entry (change.Ticket ticket) = None
added_entry (change.Batch batch) = None

-- the changes begin with bonds that have these rows
abbrev pub BeginWith : List Change → List UnpaidBond → Type 0
BeginWith changes rows = (length rows ≤ length changes) × (map (λ row. Some (entry_of_unpaid row)) rows ≡ map added_entry (take (length rows) changes))

-- ---- room

-- the number of rows with a hidden rowid that a change adds at most
abbrev pub added_rows : Change → ℕ
added_rows (change.Rates from rates) = 0
added_rows (change.Bond bond) = 1
added_rows (change.Day day) = 0
added_rows (change.Ticket ticket) = length ticket.lines
added_rows (change.Batch batch) = 0

abbrev pub all_added_rows : List Change → ℕ
all_added_rows [] = 0
all_added_rows (change ∷ changes) = added_rows change + all_added_rows changes
