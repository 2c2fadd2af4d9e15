-- The rows of each table, as a query of all their columns shows them, and as entries of maps.
use Rattle.std.specs.Prelude.{◌≡◌, ℕ, IsUtf8, Bool, ◌&&◌, ◌||◌, ◌==◌, nat_lt, List, [], ◌∷◌, Some, map, string_bytes}
use Rattle.std.specs.Ordering.{nat_cmp}
use Rattle.std.specs.FinMap.{FinMap, get, from_sorted}
use Rattle.ee_store_tables.specs.Keyed.{pair_cmp}
use Rattle.sqlite.specs.declared.types.Value.TheVariants.{Text}
use Rattle.sqlite.specs.Order.{Row}
use Rattle.ee_store_tables.specs.Rows.{DeskRow, BondRow, TicketRow, PaidRow, BatchRow, ReplyRow, number, optional, reply_columns}
use Rattle.ee_desk_model.specs.declared.changes.Held.{Held}
use Rattle.ee_desk_model.specs.Ranges.{BondFits}
use Rattle.ee_store_rows.specs.Rows.{bond_row, key_of}
use Rattle.ee_store_load.specs.declared.entries.StoredDesk.{StoredDesk}
use Rattle.ee_store_load.specs.declared.entries.StoredRate.{StoredRate}
use Rattle.ee_store_load.specs.declared.entries.StoredTicket.{StoredTicket}
use Rattle.ee_store_load.specs.declared.entries.StoredLine.{StoredLine}
use Rattle.ee_store_load.specs.declared.entries.StoredBatch.{StoredBatch}
use Rattle.ee_store_load.specs.declared.entries.StoredReply.{StoredReply}
use Rattle.ee_store_schema.specs.declared.answers.StoredAnswer.{StoredAnswer}
use Rattle.ee_store_schema.specs.Migrating.{answer_entry}

-- pairs are ordered by their first numbers, then by their second
abbrev pub pair_lt : ℕ × ℕ → ℕ × ℕ → Bool
pair_lt a b = nat_lt a.0 b.0 || ((a.0 == b.0) && nat_lt a.1 b.1)

-- ---- what a query shows

abbrev pub desk_shown : StoredDesk → Row
desk_shown d = number d.id ∷ number d.version ∷ optional d.day ∷ optional d.last_day ∷ []

abbrev pub rate_shown : StoredRate → Row
rate_shown r = number r.period ∷ number r.rate ∷ []

abbrev pub ticket_shown : StoredTicket → Row
ticket_shown t = number t.ticket ∷ number t.day ∷ number t.payee ∷ number t.bonds ∷ number t.total ∷ []

abbrev pub line_shown : StoredLine → Row
line_shown l = number l.ticket ∷ number l.place ∷ number l.letter ∷ number l.number ∷ number l.cents ∷ []

abbrev pub batch_shown : StoredBatch → Row
batch_shown b = number b.day ∷ number b.tickets ∷ number b.bonds ∷ number b.total ∷ []

abbrev pub reply_shown : StoredReply → Row
reply_shown r = number r.number ∷ Text (string_bytes r.act) ∷ Text (string_bytes r.reply) ∷ []

-- ---- rows that this program writes

-- under a number
abbrev pub keyed_shown : {X : Type 0} → (X → Row) → ℕ × X → Row
keyed_shown columns e = number e.0 ∷ columns e.1

-- under a pair of numbers
abbrev pub pair_shown : {X : Type 0} → (X → Row) → (ℕ × ℕ) × X → Row
pair_shown columns e = number e.0.0 ∷ number e.0.1 ∷ columns e.1

abbrev pub IsKeyed : {X : Type 0} → (X → Row) → Row → Type 0
IsKeyed {X} columns row = (e : ℕ × X) × (row ≡ keyed_shown columns e)

abbrev pub IsPaired : {X : Type 0} → (X → Row) → Row → Type 0
IsPaired {X} columns row = (e : (ℕ × ℕ) × X) × (row ≡ pair_shown columns e)

abbrev pub bond_entry : Held → (ℕ × ℕ) × BondRow
bond_entry h = (key_of h.bond.serial, bond_row h)

-- a registered bond has this entry
abbrev pub IsBond : (ℕ × ℕ) × BondRow → Type 0
IsBond e = (held : Held) × BondFits held.bond × (e ≡ bond_entry held)

abbrev pub AreBonds : FinMap pair_cmp BondRow → Type 0
AreBonds bonds = (k : ℕ × ℕ) (bond : BondRow) → get bonds k ≡ Some bond → IsBond (k, bond)

-- texts that can be read
abbrev pub IsWritten : ReplyRow → Type 0
IsWritten reply = IsUtf8 reply.act × IsUtf8 reply.reply

abbrev pub AreWritten : FinMap pair_cmp ReplyRow → Type 0
AreWritten answers = (k : ℕ × ℕ) (reply : ReplyRow) → get answers k ≡ Some reply → IsWritten reply

abbrev pub IsReply : Row → Type 0
IsReply row = (e : ℕ × ReplyRow) × (row ≡ keyed_shown reply_columns e) × IsWritten e.1

-- ---- entries

abbrev pub desk_entry : StoredDesk → ℕ × DeskRow
desk_entry d = (d.id, record { version = d.version; day = d.day; last_day = d.last_day })

abbrev pub rate_entry : StoredRate → ℕ × ℕ
rate_entry r = (r.period, r.rate)

abbrev pub ticket_entry : StoredTicket → ℕ × TicketRow
ticket_entry t = (t.ticket, record { day = t.day; payee = t.payee; bonds = t.bonds; total = t.total })

abbrev pub line_entry : StoredLine → (ℕ × ℕ) × PaidRow
line_entry l = ((l.ticket, l.place), record { letter = l.letter; number = l.number; cents = l.cents })

abbrev pub batch_entry : StoredBatch → ℕ × BatchRow
batch_entry b = (b.day, record { tickets = b.tickets; bonds = b.bonds; total = b.total })

-- ---- maps of the rows that were read, by key

abbrev pub desk_map : List StoredDesk → FinMap nat_cmp DeskRow
desk_map all = from_sorted (map desk_entry all)

abbrev pub rate_map : List StoredRate → FinMap nat_cmp ℕ
rate_map all = from_sorted (map rate_entry all)

abbrev pub bond_map : List Held → FinMap pair_cmp BondRow
bond_map all = from_sorted (map bond_entry all)

abbrev pub ticket_map : List StoredTicket → FinMap nat_cmp TicketRow
ticket_map all = from_sorted (map ticket_entry all)

abbrev pub line_map : List StoredLine → FinMap pair_cmp PaidRow
line_map all = from_sorted (map line_entry all)

abbrev pub batch_map : List StoredBatch → FinMap nat_cmp BatchRow
batch_map all = from_sorted (map batch_entry all)

abbrev pub answer_map : List StoredAnswer → FinMap pair_cmp ReplyRow
answer_map all = from_sorted (map answer_entry all)
