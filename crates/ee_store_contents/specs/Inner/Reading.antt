-- The values that the rows of the tables represent.
use Rattle.std.specs.Prelude.{ℕ, ◌+◌, nat_le, ◌&&◌, ◌==◌, List, [], ◌∷◌, length, map, take, drop, Option, Some, None, if◌then◌else◌}
use Rattle.std.specs.Option.{option_map}
use Rattle.ee_units.specs.Spelling.{in_range, ◌>>=◌}
use Rattle.ee_value.specs.declared.rates.RateRow.{RateRow}
use Rattle.ee_value.specs.Chain.{rates_with}
use Rattle.ee_desk_model.specs.declared.replies.Line.{Line}
use Rattle.ee_desk_model.specs.declared.replies.Ticket.{Ticket}
use Rattle.ee_desk_model.specs.declared.replies.Batch.{Batch}
use Rattle.ee_desk_soundness.specs.Marks.{bond_of}
use Rattle.ee_desk_soundness.specs.Parts.{Parts}
use Rattle.ee_store_contents.specs.declared.reading.Days.{Days}
use Rattle.ee_store_rows.specs.Lines.{line_with}
use Rattle.ee_store_load.specs.declared.entries.StoredDesk.{StoredDesk}
use Rattle.ee_store_load.specs.declared.entries.StoredRate.{StoredRate}
use Rattle.ee_store_load.specs.declared.entries.StoredTicket.{StoredTicket}
use Rattle.ee_store_load.specs.declared.entries.StoredLine.{StoredLine}
use Rattle.ee_store_load.specs.declared.entries.StoredBatch.{StoredBatch}
use Rattle.ee_store_load.specs.declared.whole.AllRows.{AllRows}
use Rattle.ee_store_schema.specs.Forms.{version_of}
use Rattle.ee_units.specs.Limits.{earliest_day, highest_customer, highest_rate, latest_day, latest_issue_month}

-- the value of each row, if each has one
abbrev pub each : {A B : Type 0} → (A → Option B) → List A → Option (List B)
each read [] = Some []
each read (x ∷ xs) = read x >>= λ y. each read xs >>= λ ys. Some (y ∷ ys)

-- a value that may be absent
abbrev pub optional_in : (ℕ → Option ℕ) → Option ℕ → Option (Option ℕ)
optional_in read None = Some None
optional_in read (Some n) = option_map Some (read n)

abbrev pub issue_in : ℕ → Option ℕ
issue_in count = in_range 0 latest_issue_month count

abbrev pub day_in : ℕ → Option ℕ
day_in count = in_range earliest_day latest_day count

abbrev pub rate_of : ℕ → Option ℕ
rate_of hundredths = in_range 0 highest_rate hundredths

abbrev pub customer_in : ℕ → Option ℕ
customer_in number = in_range 1 highest_customer number

unfoldable pub days_of : StoredDesk → Option Days
days_of row = do
  day ← optional_in day_in row.day
  last_day ← optional_in day_in row.last_day
  Some (record { day = day; last_day = last_day })

-- one row, with id 1 and this version
abbrev pub days_in : ℕ → List StoredDesk → Option Days
days_in version [] = None
days_in version (row ∷ []) = if (row.id == 1) && (row.version == version) then days_of row else None
days_in version (row ∷ other ∷ rows) = None

-- a rate that differs from the fixed one
abbrev pub other_rate : ℕ → ℕ → Option ℕ
other_rate fixed hundredths = rate_of hundredths >>= λ rate. if rate == fixed then None else Some rate

-- a row with its extension, if there is one
unfoldable pub rate_in : Option ℕ → StoredRate → Option RateRow
rate_in extension row = do
  from ← issue_in row.period
  fixed ← rate_of row.rate
  other ← optional_in (other_rate fixed) extension
  Some (record { from = from; rates = rates_with fixed other })

-- the extension of a period: that of the first row, if the row is of this period
abbrev pub extension_of : ℕ → List StoredRate → Option ℕ
extension_of period [] = None
extension_of period (row ∷ rows) = if row.period == period then Some row.rate else None

-- the rows after that extension
abbrev pub after_extension : ℕ → List StoredRate → List StoredRate
after_extension period [] = []
after_extension period (row ∷ rows) = if row.period == period then rows else row ∷ rows

-- rates, each with its extension; no extension is left over
abbrev pub rates_in : List StoredRate → List StoredRate → Option (List RateRow)
rates_in [] [] = Some []
rates_in [] (extension ∷ extensions) = None
rates_in (row ∷ rows) extensions =
    rate_in (extension_of row.period extensions) row >>= λ rate. rates_in rows (after_extension row.period extensions) >>= λ rates. Some (rate ∷ rates)

-- the line at this place of a ticket
abbrev pub line_at : ℕ → ℕ → StoredLine → Option Line
line_at ticket place row = if (row.ticket == ticket) && (row.place == place) then line_with row.letter row.number row.cents else None

-- the lines of a ticket, numbered from this place
abbrev pub lines_at : ℕ → ℕ → List StoredLine → Option (List Line)
lines_at ticket place [] = Some []
lines_at ticket place (row ∷ rows) = line_at ticket place row >>= λ line. lines_at ticket (place + 1) rows >>= λ lines. Some (line ∷ lines)

unfoldable pub ticket_with : StoredTicket → List Line → Option Ticket
ticket_with row lines = do
  day ← day_in row.day
  payee ← customer_in row.payee
  Some (record { ticket = row.ticket; day = day; payee = payee; lines = lines; total = record { 0 = row.total } })

-- a ticket, with these rows as its lines
abbrev pub ticket_in : StoredTicket → List StoredLine → Option Ticket
ticket_in row own = lines_at row.ticket 1 own >>= ticket_with row

-- tickets, each with its lines; no line is left over
abbrev pub tickets_in : List StoredTicket → List StoredLine → Option (List Ticket)
tickets_in [] [] = Some []
tickets_in [] (line ∷ lines) = None
tickets_in (row ∷ rows) lines =
    if nat_le row.bonds (length lines)
    then (ticket_in row (take row.bonds lines) >>= λ ticket. tickets_in rows (drop row.bonds lines) >>= λ tickets. Some (ticket ∷ tickets))
    else None

unfoldable pub batch_in : StoredBatch → Option Batch
batch_in row = do
  day ← day_in row.day
  Some (record { day = day; tickets = row.tickets; bonds = row.bonds; total = record { 0 = row.total } })

-- the parts of the books with these rows, if there are such books
unfoldable pub parts_in : AllRows → Option Parts
parts_in stored = do
  days ← days_in (version_of stored.form) stored.desk.items
  rates ← rates_in stored.rates.items stored.extensions.items
  tickets ← tickets_in stored.tickets.items stored.lines.items
  batches ← each batch_in stored.batches.items
  Some (record { rates = rates; bonds = map bond_of stored.bonds.items; day = days.day; last_day = days.last_day; tickets = tickets; batches = batches })
