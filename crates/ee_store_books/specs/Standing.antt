-- The books and kept replies that the rows of the store's tables represent (this project's rule: version 2 of the tables, and version 1 before it).
use Rattle.std.specs.Prelude.{◌≡◌, ◌≢◌, ℕ, ◌+◌, ◌≤◌, Option, List, [], ◌∷◌, map, IfSome, flat_map, filter_map, option_map}
use Rattle.std.specs.List.{AllByRecursion}
use Rattle.std.specs.FinMap as finite
use Rattle.std.specs.FinMap.{FinMap, entries, from_entries}
use Rattle.std.specs.Ordering.{nat_cmp}
use Rattle.ee_units.specs.Spelling.{SerialNumber}
use Rattle.ee_value.specs.declared.rates.Rates.{Rates}
use Rattle.ee_value.specs.Chain.{named_extension}
use Rattle.ee_calculator.specs.declared.bonds.Bond.{Bond}
use Rattle.ee_desk_model.specs.declared.changes.Kept.{Kept}
use Rattle.ee_desk_model.specs.declared.replies.Line.{Line}
use Rattle.ee_desk_model.specs.declared.replies.Ticket.{Ticket}
use Rattle.ee_desk_model.specs.declared.replies.Batch.{Batch}
use Rattle.ee_desk_model.specs.declared.replies.Reply.TheVariants.{Refused}
use Rattle.ee_desk_model.specs.declared.refusals.Refusal.TheVariants.{NumberReused}
use Rattle.ee_desk_model.specs.Serials.{serial_cmp}
use Rattle.ee_desk_model.specs.Numbers.{RequestKey, number_cmp}
use Rattle.ee_desk_model.specs.Limits.{highest_number}
use Rattle.ee_desk_model.specs.PlainBooks.{PlainBooks}
use Rattle.ee_desk_model.specs.Seen.{held_as}
use Rattle.ee_desk_model.specs.Sound.{IsSound}
use Rattle.ee_desk_model.specs.Repeats.{Content}
use Rattle.ee_desk_texts.specs.Texts.{act_text, reply_text}
use Rattle.ee_desk_model.specs.Ranges.{BondFits}
use Rattle.ee_desk_texts.specs.Ranges.{ActFits, ReplyFits, TicketFits, BatchFits}
use Rattle.ee_store_rows.specs.Rows.{key_of, bond_row, ticket_row, paid_row, batch_row}
use Rattle.ee_store_tables.specs.Keyed.{pair_cmp}
use Rattle.ee_store_tables.specs.Rows.{Rows, DeskRow, BondRow, TicketRow, PaidRow, BatchRow, ReplyRow}

-- ---- the rows of a content

-- one row, with id 1: the version of the tables, the open day and the last closed day
abbrev pub desk_rows : ℕ → Option ℕ → Option ℕ → FinMap nat_cmp DeskRow
desk_rows version day last_day = from_entries ((1, record { version = version; day = day; last_day = last_day }) ∷ [])

-- fixed rates in hundredths of a percent, by period
abbrev pub rate_rows : FinMap nat_cmp Rates → FinMap nat_cmp ℕ
rate_rows rates = from_entries (map (λ e. (e.0, e.1.fixed)) (entries rates))

-- extensions by period, only those that differ from the fixed rate
abbrev pub extension_entry : ℕ × Rates → Option (ℕ × ℕ)
extension_entry e = option_map (λ extension. (e.0, extension)) (named_extension e.1)

abbrev pub extension_rows : FinMap nat_cmp Rates → FinMap nat_cmp ℕ
extension_rows rates = from_entries (filter_map extension_entry (entries rates))

-- bonds by serial number, each with the ticket that pays it
abbrev pub bond_rows : FinMap serial_cmp Bond → List Ticket → FinMap pair_cmp BondRow
bond_rows bonds tickets = from_entries (map (λ e. (key_of e.0, bond_row (held_as tickets e.0 e.1))) (entries bonds))

abbrev pub ticket_rows : List Ticket → FinMap nat_cmp TicketRow
ticket_rows tickets = from_entries (map (λ ticket. (ticket.ticket, ticket_row ticket)) tickets)

-- the lines of a ticket, numbered from this place
abbrev pub placed : ℕ → ℕ → List Line → List ((ℕ × ℕ) × PaidRow)
placed ticket place [] = []
placed ticket place (line ∷ lines) = ((ticket, place), paid_row line) ∷ placed ticket (place + 1) lines

-- the lines of all tickets, by ticket and place
abbrev pub paid_rows : List Ticket → FinMap pair_cmp PaidRow
paid_rows tickets = from_entries (flat_map (λ ticket. placed ticket.ticket 1 ticket.lines) tickets)

-- batches by day
abbrev pub batch_rows : List Batch → FinMap nat_cmp BatchRow
batch_rows batches = from_entries (map (λ batch. (batch.day, batch_row batch)) batches)

abbrev pub reply_row : Kept → ReplyRow
reply_row kept = record { act = act_text kept.act; reply = reply_text kept.reply }

-- the texts of acts and replies, by desk and number
abbrev pub reply_rows : FinMap number_cmp Kept → FinMap pair_cmp ReplyRow
reply_rows kept = from_entries (map (λ e. (e.0, reply_row e.1)) (entries kept))

-- all rows of books and kept replies; the desk's row names this version
abbrev pub rows_at : ℕ → Content → Rows
rows_at version content = record {
  desk = desk_rows version content.books.day content.books.last_day;
  rates = rate_rows content.books.rates;
  extensions = extension_rows content.books.rates;
  bonds = bond_rows content.books.bonds content.books.tickets;
  tickets = ticket_rows content.books.tickets;
  paid = paid_rows content.books.tickets;
  batches = batch_rows content.books.batches;
  answers = reply_rows content.kept;
}

-- the rows of version 2
abbrev pub rows_of : Content → Rows
rows_of content = rows_at 2 content

-- ---- the contents that have rows

-- the values that soundness doesn't bound are in range
pub record AreInRange (books : PlainBooks) : Type 0 where
  pub bonds : (serial : SerialNumber) → IfSome (finite.get books.bonds serial) BondFits
  pub tickets : AllByRecursion TicketFits books.tickets
  pub batches : AllByRecursion BatchFits books.batches

-- a reply that may be kept under a desk's number: any except that the number was used for another act
pub record IsKept (number : RequestKey) (kept : Kept) : Type 0 where
  pub desk_in_range : number.0 ≤ 999
  pub number_in_range : (1 ≤ number.1) × (number.1 ≤ highest_number)
  pub act_in_range : ActFits kept.act
  pub reply_in_range : ReplyFits kept.reply
  pub first : kept.reply ≢ Refused NumberReused

-- sound books and kept replies
pub record IsRight (content : Content) : Type 0 where
  pub sound : IsSound content.books
  pub in_range : AreInRange content.books
  pub kept : (number : RequestKey) → IfSome (finite.get content.kept number) (IsKept number)

-- the rows are those of the content; the desk's row names this version
pub record StandAt (version : ℕ) (rows : Rows) (content : Content) : Type 0 where
  pub are : rows ≡ rows_at version content
  pub right : IsRight content
