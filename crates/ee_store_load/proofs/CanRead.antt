-- Each table can be read.
use Rattle.std.proofs.Common.{◌≡◌, ℕ, ℤ, pos, [], ◌∷◌, refl, nat_cmp}
use Rattle.std.specs.Prelude.{nat_lt, int_lt}
use Rattle.std.specs.FinMap.{FinMap, entries}
use Rattle.sqlite.specs.declared.types.Value.TheVariants.{Int}
use Rattle.sqlite_value.specs.Order.{Row}
use Rattle.sqlite.specs.Query.{output}
use Rattle.sqlite.specs.Program.{overlay}
use Rattle.sqlite.specs.Tree.{Trees}
use Rattle.ee_store_tables.specs.Keyed.{pair_cmp, row_of, stored, ReadAlike, HoldsMap, HoldsPairs}
use Rattle.ee_store_tables.specs.Rows.{DeskRow, BondRow, TicketRow, PaidRow, BatchRow, ReplyRow, desk_columns, rate_columns, bond_columns, ticket_columns, paid_columns, batch_columns, reply_columns}
use Rattle.ee_store_load.specs.declared.entries.StoredDesk.{StoredDesk}
use Rattle.ee_store_load.specs.declared.entries.StoredRate.{StoredRate}
use Rattle.ee_desk_model.specs.declared.changes.Held.{Held}
use Rattle.ee_store_rows.specs.Rows.{key_of}
use Rattle.ee_store_load.specs.declared.entries.StoredTicket.{StoredTicket}
use Rattle.ee_store_load.specs.declared.entries.StoredLine.{StoredLine}
use Rattle.ee_store_load.specs.declared.entries.StoredBatch.{StoredBatch}
use Rattle.ee_store_load.specs.declared.entries.StoredReply.{StoredReply}
use Rattle.ee_store_load.specs.declared.entries.Rowid.{Rowid}
use Rattle.ee_store_load.specs.Inner.Reading.{whole_table, CanBeRead}
use Rattle.ee_store_load.specs.Shown as spec
use Rattle.ee_store_load.specs.Inner.Shown as inner
use Rattle.ee_store_load.specs.Shown.{pair_lt, keyed_shown, pair_shown, IsKeyed, IsPaired, IsReply, AreBonds, AreWritten}
use Rattle.ee_store_load.specs.Inner.Shown.{IsAnswerRow, IsRowid, IsBondRow}
use Rattle.ee_store_schema.specs.declared.answers.StoredAnswer.{StoredAnswer}
use Rattle.ee_store_schema.specs.Forms.{at_first_desk}
use Rattle.ee_store_schema.specs.Migrating.{answer_entry}
use Rattle.ee_store_load.proofs.QuestionLemmas.{by_key, by_pair, desk_terms, rate_terms, bond_terms, ticket_terms, line_terms, batch_terms, reply_terms, answer_terms, rowid_terms}
use Rattle.ee_store_tables.proofs.Lemmas.OneRows.{un_desk, back_desk, un_rates, back_rates, un_bonds, back_bonds, un_tickets, back_tickets, un_lines, back_lines, un_batches, back_batches, un_replies, back_replies}
use Rattle.ee_store_load.proofs.UsableLemmas.{can_read_keyed, all_keyed, all_paired, all_replies, all_answers, all_bonds, can_read_pairs, can_read_rowids}

desk_shows : (r : Row) (p : ℤ × (ℕ × DeskRow)) → ReadAlike r (row_of desk_columns (pos p.1.0, p.1)) → output (whole_table 0 desk_terms by_key) ([] ∷ r ∷ []) ≡ (Int (pos p.1.0) ∷ [], keyed_shown desk_columns p.1)
desk_shows r p one = rw (one 0, one 2, one 3, one 4) refl

pub can_read_desk : (db : Trees) (m : FinMap nat_cmp DeskRow) → HoldsMap desk_columns (db 0) m → CanBeRead (IsKeyed desk_columns) spec.desk_shown (λ (a b : StoredDesk). nat_lt a.id b.id) db (whole_table 0 desk_terms by_key)
can_read_desk db m holds = can_read_keyed desk_columns un_desk back_desk 0 desk_terms desk_shows db m refl holds spec.desk_entry (IsKeyed desk_columns) (all_keyed desk_columns (entries m))

rate_shows : (tree : ℕ) (r : Row) (p : ℤ × (ℕ × ℕ)) → ReadAlike r (row_of rate_columns (pos p.1.0, p.1)) → output (whole_table tree rate_terms by_key) ([] ∷ r ∷ []) ≡ (Int (pos p.1.0) ∷ [], keyed_shown rate_columns p.1)
rate_shows tree r p one = rw (one 0, one 2) refl

can_read_rates_in : (tree : ℕ) (db : Trees) (m : FinMap nat_cmp ℕ) → overlay db [] tree ≡ db tree → HoldsMap rate_columns (db tree) m
    → CanBeRead (IsKeyed rate_columns) spec.rate_shown (λ (a b : StoredRate). nat_lt a.period b.period) db (whole_table tree rate_terms by_key)
can_read_rates_in tree db m read holds = can_read_keyed rate_columns un_rates back_rates tree rate_terms (rate_shows tree) db m read holds spec.rate_entry (IsKeyed rate_columns) (all_keyed rate_columns (entries m))

pub can_read_rates : (db : Trees) (m : FinMap nat_cmp ℕ) → HoldsMap rate_columns (db 1) m → CanBeRead (IsKeyed rate_columns) spec.rate_shown (λ (a b : StoredRate). nat_lt a.period b.period) db (whole_table 1 rate_terms by_key)
can_read_rates db m holds = can_read_rates_in 1 db m refl holds

pub can_read_extensions : (db : Trees) (m : FinMap nat_cmp ℕ) → HoldsMap rate_columns (db 12) m → CanBeRead (IsKeyed rate_columns) spec.rate_shown (λ (a b : StoredRate). nat_lt a.period b.period) db (whole_table 12 rate_terms by_key)
can_read_extensions db m holds = can_read_rates_in 12 db m refl holds

ticket_shows : (r : Row) (p : ℤ × (ℕ × TicketRow)) → ReadAlike r (row_of ticket_columns (pos p.1.0, p.1)) → output (whole_table 5 ticket_terms by_key) ([] ∷ r ∷ []) ≡ (Int (pos p.1.0) ∷ [], keyed_shown ticket_columns p.1)
ticket_shows r p one = rw (one 0, one 2, one 3, one 4, one 5) refl

pub can_read_tickets : (db : Trees) (m : FinMap nat_cmp TicketRow) → HoldsMap ticket_columns (db 5) m → CanBeRead (IsKeyed ticket_columns) spec.ticket_shown (λ (a b : StoredTicket). nat_lt a.ticket b.ticket) db (whole_table 5 ticket_terms by_key)
can_read_tickets db m holds = can_read_keyed ticket_columns un_tickets back_tickets 5 ticket_terms ticket_shows db m refl holds spec.ticket_entry (IsKeyed ticket_columns) (all_keyed ticket_columns (entries m))

batch_shows : (r : Row) (p : ℤ × (ℕ × BatchRow)) → ReadAlike r (row_of batch_columns (pos p.1.0, p.1)) → output (whole_table 10 batch_terms by_key) ([] ∷ r ∷ []) ≡ (Int (pos p.1.0) ∷ [], keyed_shown batch_columns p.1)
batch_shows r p one = rw (one 0, one 2, one 3, one 4) refl

pub can_read_batches : (db : Trees) (m : FinMap nat_cmp BatchRow) → HoldsMap batch_columns (db 10) m → CanBeRead (IsKeyed batch_columns) spec.batch_shown (λ (a b : StoredBatch). nat_lt a.day b.day) db (whole_table 10 batch_terms by_key)
can_read_batches db m holds = can_read_keyed batch_columns un_batches back_batches 10 batch_terms batch_shows db m refl holds spec.batch_entry (IsKeyed batch_columns) (all_keyed batch_columns (entries m))

reply_shows : (r : Row) (p : ℤ × (ℕ × ReplyRow)) → ReadAlike r (row_of reply_columns (pos p.1.0, p.1)) → output (whole_table 11 reply_terms by_key) ([] ∷ r ∷ []) ≡ (Int (pos p.1.0) ∷ [], keyed_shown reply_columns p.1)
reply_shows r p one = rw (one 0, one 2, one 3) refl

pub can_read_replies : (db : Trees) (m : FinMap nat_cmp ReplyRow) → AreWritten (at_first_desk m) → HoldsMap reply_columns (db 11) m → CanBeRead IsReply spec.reply_shown (λ (a b : StoredReply). nat_lt a.number b.number) db (whole_table 11 reply_terms by_key)
can_read_replies db m written holds = can_read_keyed reply_columns un_replies back_replies 11 reply_terms reply_shows db m refl holds inner.reply_entry IsReply (all_replies m written)

bond_shows : (r : Row) (p : ℤ × ((ℕ × ℕ) × BondRow)) → ReadAlike r (stored bond_columns p) → output (whole_table 2 bond_terms by_pair) ([] ∷ r ∷ []) ≡ (Int (pos p.1.0.0) ∷ Int (pos p.1.0.1) ∷ [], pair_shown bond_columns p.1)
bond_shows r p one = rw (one 1, one 2, one 3, one 4, one 5, one 6, one 7) refl

pub can_read_bonds : (db : Trees) (m : FinMap pair_cmp BondRow) → AreBonds m → HoldsPairs bond_columns (db 2) m
    → CanBeRead IsBondRow inner.bond_shown (λ (a b : Held). pair_lt (key_of a.bond.serial) (key_of b.bond.serial)) db (whole_table 2 bond_terms by_pair)
can_read_bonds db m are holds = can_read_pairs bond_columns un_bonds back_bonds 2 bond_terms bond_shows db m refl holds spec.bond_entry IsBondRow (all_bonds m are)

pub can_read_bond_rowids : (db : Trees) (m : FinMap pair_cmp BondRow) → HoldsPairs bond_columns (db 2) m → CanBeRead IsRowid (λ (it : Rowid). Int it.rowid ∷ []) (λ (a b : Rowid). int_lt a.rowid b.rowid) db (whole_table 2 rowid_terms by_key)
can_read_bond_rowids db m holds = can_read_rowids 2 bond_columns db m refl holds

line_shows : (r : Row) (p : ℤ × ((ℕ × ℕ) × PaidRow)) → ReadAlike r (stored paid_columns p) → output (whole_table 7 line_terms by_pair) ([] ∷ r ∷ []) ≡ (Int (pos p.1.0.0) ∷ Int (pos p.1.0.1) ∷ [], pair_shown paid_columns p.1)
line_shows r p one = rw (one 1, one 2, one 3, one 4, one 5) refl

pub can_read_lines : (db : Trees) (m : FinMap pair_cmp PaidRow) → HoldsPairs paid_columns (db 7) m
    → CanBeRead (IsPaired paid_columns) spec.line_shown (λ (a b : StoredLine). pair_lt (a.ticket, a.place) (b.ticket, b.place)) db (whole_table 7 line_terms by_pair)
can_read_lines db m holds = can_read_pairs paid_columns un_lines back_lines 7 line_terms line_shows db m refl holds spec.line_entry (IsPaired paid_columns) (all_paired paid_columns (entries m))

pub can_read_line_rowids : (db : Trees) (m : FinMap pair_cmp PaidRow) → HoldsPairs paid_columns (db 7) m → CanBeRead IsRowid (λ (it : Rowid). Int it.rowid ∷ []) (λ (a b : Rowid). int_lt a.rowid b.rowid) db (whole_table 7 rowid_terms by_key)
can_read_line_rowids db m holds = can_read_rowids 7 paid_columns db m refl holds

answer_shows : (r : Row) (p : ℤ × ((ℕ × ℕ) × ReplyRow)) → ReadAlike r (stored reply_columns p) → output (whole_table 13 answer_terms by_pair) ([] ∷ r ∷ []) ≡ (Int (pos p.1.0.0) ∷ Int (pos p.1.0.1) ∷ [], pair_shown reply_columns p.1)
answer_shows r p one = rw (one 1, one 2, one 3, one 4) refl

pub can_read_answers : (db : Trees) (m : FinMap pair_cmp ReplyRow) → AreWritten m → HoldsPairs reply_columns (db 13) m
    → CanBeRead IsAnswerRow inner.answer_shown (λ (a b : StoredAnswer). pair_lt (a.desk, a.number) (b.desk, b.number)) db (whole_table 13 answer_terms by_pair)
can_read_answers db m written holds = can_read_pairs reply_columns un_replies back_replies 13 answer_terms answer_shows db m refl holds answer_entry IsAnswerRow (all_answers m written)

pub can_read_answer_rowids : (db : Trees) (m : FinMap pair_cmp ReplyRow) → HoldsPairs reply_columns (db 13) m → CanBeRead IsRowid (λ (it : Rowid). Int it.rowid ∷ []) (λ (a b : Rowid). int_lt a.rowid b.rowid) db (whole_table 13 rowid_terms by_key)
can_read_answer_rowids db m holds = can_read_rowids 13 reply_columns db m refl holds
