-- Definitions that private contracts alone cite; specs/Shown.antt has the others.
use Rattle.std.specs.Prelude.{◌≡◌, ℕ, ℤ, List, [], ◌∷◌, map, string_bytes}
use Rattle.std.specs.Ordering.{nat_cmp}
use Rattle.std.specs.FinMap.{FinMap, from_sorted}
use Rattle.sqlite.specs.declared.types.Value.TheVariants.{Int, Text}
use Rattle.sqlite.specs.Order.{Row}
use Rattle.ee_store_tables.specs.Rows.{BondRow, ReplyRow, number, optional, bond_columns, reply_columns}
use Rattle.ee_units.specs.Denoms.{dollars}
use Rattle.ee_desk_model.specs.declared.changes.Held.{Held}
use Rattle.ee_store_load.specs.declared.entries.StoredReply.{StoredReply}
use Rattle.ee_store_schema.specs.declared.answers.StoredAnswer.{StoredAnswer}
use Rattle.ee_store_load.specs.Shown.{pair_shown, IsBond, IsWritten}

-- ---- what a query shows

abbrev pub bond_shown : Held → Row
bond_shown h =
    number h.bond.serial.letter ∷ number h.bond.serial.number ∷ number (dollars h.bond.denom) ∷ number h.bond.issued ∷ number h.bond.owner ∷ optional h.bond.coowner
    ∷ optional h.ticket ∷ []

abbrev pub answer_shown : StoredAnswer → Row
answer_shown a = number a.desk ∷ number a.number ∷ Text (string_bytes a.act) ∷ Text (string_bytes a.reply) ∷ []

-- ---- rows that this program writes

abbrev pub IsBondRow : Row → Type 0
IsBondRow row = (e : (ℕ × ℕ) × BondRow) × (row ≡ pair_shown bond_columns e) × IsBond e

abbrev pub IsAnswerRow : Row → Type 0
IsAnswerRow row = (e : (ℕ × ℕ) × ReplyRow) × (row ≡ pair_shown reply_columns e) × IsWritten e.1

abbrev pub IsRowid : Row → Type 0
IsRowid row = (i : ℤ) × (row ≡ Int i ∷ [])

-- ---- entries

abbrev pub reply_entry : StoredReply → ℕ × ReplyRow
reply_entry r = (r.number, record { act = string_bytes r.act; reply = string_bytes r.reply })

-- ---- maps of the rows that were read, by key

abbrev pub reply_map : List StoredReply → FinMap nat_cmp ReplyRow
reply_map all = from_sorted (map reply_entry all)

-- a reply of version 1 belongs to the first desk
abbrev pub first_answer : StoredReply → StoredAnswer
first_answer r = record { desk = 0; number = r.number; act = r.act; reply = r.reply }
