-- Each table, from the rows that were read of it.
use Rattle.std.proofs.Common.{◌≡◌, ◌≢◌, ℕ, ℤ, pos, List, [], ◌∷◌, map, true, refl, sym, ap, subst, ◌∙◌, nat_cmp}
use Rattle.std.specs.Prelude.{IsPermutation, nat_lt, int_lt, drop}
use Rattle.std.specs.List.{AllByRecursion}
use Rattle.std.specs.FinMap.{entries, entries-from_sorted}
use Rattle.std.proofs.lemmas.Cmp.{nat_cmp_total}
use Rattle.sqlite.specs.declared.types.Value.TheVariants.{Int}
use Rattle.sqlite.specs.Effect.{Database, IsDatabase}
use Rattle.sqlite.specs.Schema.{Schema}
use Rattle.sqlite.specs.Table.{Table}
use Rattle.sqlite.specs.Tree.{Trees}
use Rattle.sqlite_value.specs.Order.{Row, column}
use Rattle.sqlite_schema.specs.declared.schema.Constraint.TheVariants.{Datatype}
use Rattle.sqlite_schema.specs.Rules.{passes, are_typed, Keeps}
use Rattle.sqlite_keyed.proofs.ListLemmas.{map-map, all_weaker}
use Rattle.sqlite_keyed.proofs.RuleLemmas.{first_of_both}
use Rattle.ee_store_tables.specs.Tables.{with_others, others_in, HasCounterTables, desk, rates, bonds, tickets, paid, batches, extensions, answers}
use Rattle.ee_store_tables.specs.Keyed.{pair_cmp, row_of, stored, ReadAlike, HoldsMap, HoldsPairs}
use Rattle.ee_store_tables.specs.Rows.{DeskRow, BondRow, TicketRow, PaidRow, BatchRow, ReplyRow, desk_columns, rate_columns, bond_columns, ticket_columns, paid_columns, batch_columns, reply_columns}
use Rattle.ee_store_tables.proofs.Lemmas.Rows.{pair_total}
use Rattle.ee_store_tables.proofs.Lemmas.OneRows.{un_desk, back_desk, un_rates, back_rates, un_tickets, back_tickets, un_batches, back_batches, un_replies, back_replies, un_bonds, back_bonds, un_lines, back_lines}
use Rattle.ee_store_load.specs.declared.entries.StoredDesk.{StoredDesk}
use Rattle.ee_store_load.specs.declared.entries.StoredRate.{StoredRate}
use Rattle.ee_desk_model.specs.declared.changes.Held.{Held}
use Rattle.ee_store_rows.specs.Rows.{key_of}
use Rattle.ee_store_load.specs.declared.entries.StoredTicket.{StoredTicket}
use Rattle.ee_store_load.specs.declared.entries.StoredLine.{StoredLine}
use Rattle.ee_store_load.specs.declared.entries.StoredBatch.{StoredBatch}
use Rattle.ee_store_load.specs.declared.entries.StoredReply.{StoredReply}
use Rattle.ee_store_load.specs.declared.entries.Rowid.{Rowid}
use Rattle.ee_store_schema.specs.declared.forms.Form.{Form}
use Rattle.ee_store_schema.specs.declared.forms.Form.TheVariants.{Current, First, Earliest}
use Rattle.ee_store_schema.specs.Forms.{replies, first_tables, earliest_tables, IsIn}
use Rattle.ee_store_schema.specs.declared.answers.StoredAnswer.{StoredAnswer}
use Rattle.ee_store_schema.specs.Migrating.{answer_entry}
use Rattle.ee_store_load.specs.Reading.{rises}
use Rattle.ee_store_load.specs.Inner.Reading.{shown_by, ShowsAll}
use Rattle.ee_store_load.specs.Shown as spec
use Rattle.ee_store_load.specs.Inner.Shown as inner
use Rattle.ee_store_load.specs.Shown.{pair_lt}
use Rattle.ee_store_load.proofs.FoundLemmas.{sorted_if_rises, reads_alike}
use Rattle.ee_store_load.proofs.TableLemmas.{rises_same, number_below, pair_below, short_row, key_empty, apart_if_rises, holds_keyed, holds_pairs}
use Rattle.ee_store_load.proofs.QuestionLemmas.{desk_terms, rate_terms, bond_terms, ticket_terms, line_terms, batch_terms, reply_terms, answer_terms, rowid_terms}

-- ---- types

abbrev AreTyped : Trees → Table → Type 0
AreTyped db table = AllByRecursion (λ r. are_typed table.key 0 table.columns (drop 1 r) ≡ true) (db table.tree)

typed_rows : (schema : Schema) (db : Trees) (table : Table) → AllByRecursion (λ r. passes Datatype schema db table r ≡ true) (db table.tree) → AreTyped db table
typed_rows schema db table each = all_weaker _ _ (λ r h. first_of_both _ _ h) (db table.tree) each

-- the rows of the tables that each form has
record AreAllTyped (db : Trees) : Type 0 where
  desk : AreTyped db desk
  rates : AreTyped db rates
  bonds : AreTyped db bonds
  tickets : AreTyped db tickets
  paid : AreTyped db paid
  batches : AreTyped db batches

keeps_types : (schema : Schema) (db : Database) → IsDatabase db → db.schema ≡ schema → Keeps Datatype schema db.trees
keeps_types schema db sound has = subst (λ s. Keeps Datatype s db.trees) has (sound.obeys.rules Datatype)

-- the rows of a table have the types of its columns
typed : (form : Form) (db : Database) → IsDatabase db → IsIn form db.schema → AreAllTyped db.trees
typed Current db sound has =
    let each = keeps_types (with_others (others_in db.schema)) db sound has.ours in
    record {
      desk = typed_rows (with_others (others_in db.schema)) db.trees desk each.0;
      rates = typed_rows (with_others (others_in db.schema)) db.trees rates each.1.0;
      bonds = typed_rows (with_others (others_in db.schema)) db.trees bonds each.1.1.0;
      tickets = typed_rows (with_others (others_in db.schema)) db.trees tickets each.1.1.1.0;
      paid = typed_rows (with_others (others_in db.schema)) db.trees paid each.1.1.1.1.0;
      batches = typed_rows (with_others (others_in db.schema)) db.trees batches each.1.1.1.1.1.0;
    }
typed First db sound has =
    let each = keeps_types first_tables db sound has in
    record {
      desk = typed_rows first_tables db.trees desk each.0;
      rates = typed_rows first_tables db.trees rates each.1.0;
      bonds = typed_rows first_tables db.trees bonds each.1.1.0;
      tickets = typed_rows first_tables db.trees tickets each.1.1.1.0;
      paid = typed_rows first_tables db.trees paid each.1.1.1.1.0;
      batches = typed_rows first_tables db.trees batches each.1.1.1.1.1.0;
    }
typed Earliest db sound has =
    let each = keeps_types earliest_tables db sound has in
    record {
      desk = typed_rows earliest_tables db.trees desk each.0;
      rates = typed_rows earliest_tables db.trees rates each.1.0;
      bonds = typed_rows earliest_tables db.trees bonds each.1.1.0;
      tickets = typed_rows earliest_tables db.trees tickets each.1.1.1.0;
      paid = typed_rows earliest_tables db.trees paid each.1.1.1.1.0;
      batches = typed_rows earliest_tables db.trees batches each.1.1.1.1.1.0;
    }

typed_replies : (form : Form) → form ≢ Current → (db : Database) → IsDatabase db → IsIn form db.schema → AreTyped db.trees replies
typed_replies Current earlier db sound has = absurd (earlier refl)
typed_replies First earlier db sound has = typed_rows first_tables db.trees replies (keeps_types first_tables db sound has).1.1.1.1.1.1.0
typed_replies Earliest earlier db sound has = typed_rows earliest_tables db.trees replies (keeps_types earliest_tables db sound has).1.1.1.1.1.1.0

typed_extensions : (form : Form) → form ≢ Earliest → (db : Database) → IsDatabase db → IsIn form db.schema → AreTyped db.trees extensions
typed_extensions Current later db sound has = typed_rows (with_others (others_in db.schema)) db.trees extensions (keeps_types (with_others (others_in db.schema)) db sound has.ours).1.1.1.1.1.1.0
typed_extensions First later db sound has = typed_rows first_tables db.trees extensions (keeps_types first_tables db sound has).1.1.1.1.1.1.1.0
typed_extensions Earliest later db sound has = absurd (later refl)

-- ---- desk

alike_desk : (r : Row) → are_typed desk.key 0 desk.columns (drop 1 r) ≡ true → (e : ℕ × DeskRow) → shown_by desk_terms r ≡ Int (pos e.0) ∷ desk_columns e.1 → ReadAlike r (row_of desk_columns (pos e.0, e))
alike_desk r typed e is = reads_alike r (row_of desk_columns (pos e.0, e)) (ap (λ xs. column xs 0) is, (key_empty desk.columns r typed, (ap (λ xs. column xs 1) is, (ap (λ xs. column xs 2) is, (ap (λ xs. column xs 3) is, tt))))) (short_row desk.key desk.columns r typed)

pub holds_desk : (form : Form) (db : Database) → IsDatabase db → IsIn form db.schema → (all : List StoredDesk) → ShowsAll db.trees 0 desk_terms (map spec.desk_shown all) → rises (λ a b. nat_lt a.id b.id) all ≡ true
    → HoldsMap desk_columns (db.trees 0) (spec.desk_map all)
holds_desk form db sound has all shows up =
    let same = subst (IsPermutation (map (shown_by desk_terms) (db.trees 0))) (sym (map-map (λ (e : ℕ × DeskRow). Int (pos e.0) ∷ desk_columns e.1) spec.desk_entry all)) shows in
    let sorted = sorted_if_rises nat_cmp nat_cmp_total spec.desk_entry all (sym (rises_same _ _ (λ (a b : StoredDesk). number_below a.id b.id) all) ∙ up) in
    holds_keyed desk_columns un_desk back_desk desk_terms (λ _. refl) (db.trees 0) (map spec.desk_entry all) same
    (all_weaker _ _ alike_desk (db.trees 0) (typed form db sound has).desk) sorted

-- ---- rates

alike_rates : (r : Row) → are_typed rates.key 0 rates.columns (drop 1 r) ≡ true → (e : ℕ × ℕ) → shown_by rate_terms r ≡ Int (pos e.0) ∷ rate_columns e.1 → ReadAlike r (row_of rate_columns (pos e.0, e))
alike_rates r typed e is = reads_alike r (row_of rate_columns (pos e.0, e)) (ap (λ xs. column xs 0) is, (key_empty rates.columns r typed, (ap (λ xs. column xs 1) is, tt))) (short_row rates.key rates.columns r typed)

held_rates : (tree : List Row) → AllByRecursion (λ r. are_typed rates.key 0 rates.columns (drop 1 r) ≡ true) tree → (all : List StoredRate) → IsPermutation (map (shown_by rate_terms) tree) (map spec.rate_shown all)
    → rises (λ a b. nat_lt a.period b.period) all ≡ true → HoldsMap rate_columns tree (spec.rate_map all)
held_rates tree types all shows up =
    let same = subst (IsPermutation (map (shown_by rate_terms) tree)) (sym (map-map (λ (e : ℕ × ℕ). Int (pos e.0) ∷ rate_columns e.1) spec.rate_entry all)) shows in
    let sorted = sorted_if_rises nat_cmp nat_cmp_total spec.rate_entry all (sym (rises_same _ _ (λ (a b : StoredRate). number_below a.period b.period) all) ∙ up) in
    holds_keyed rate_columns un_rates back_rates rate_terms (λ _. refl) tree (map spec.rate_entry all) same (all_weaker _ _ alike_rates tree types) sorted

pub holds_rates : (form : Form) (db : Database) → IsDatabase db → IsIn form db.schema → (all : List StoredRate) → ShowsAll db.trees 1 rate_terms (map spec.rate_shown all) → rises (λ a b. nat_lt a.period b.period) all ≡ true
    → HoldsMap rate_columns (db.trees 1) (spec.rate_map all)
holds_rates form db sound has = held_rates (db.trees 1) (typed form db sound has).rates

-- ---- extensions

pub holds_extensions : (form : Form) → form ≢ Earliest → (db : Database) → IsDatabase db → IsIn form db.schema → (all : List StoredRate) → ShowsAll db.trees 12 rate_terms (map spec.rate_shown all)
    → rises (λ a b. nat_lt a.period b.period) all ≡ true → HoldsMap rate_columns (db.trees 12) (spec.rate_map all)
holds_extensions form later db sound has = held_rates (db.trees 12) (typed_extensions form later db sound has)

-- ---- tickets

alike_tickets : (r : Row) → are_typed tickets.key 0 tickets.columns (drop 1 r) ≡ true → (e : ℕ × TicketRow) → shown_by ticket_terms r ≡ Int (pos e.0) ∷ ticket_columns e.1 → ReadAlike r (row_of ticket_columns (pos e.0, e))
alike_tickets r typed e is = reads_alike r (row_of ticket_columns (pos e.0, e)) (ap (λ xs. column xs 0) is, (key_empty tickets.columns r typed, (ap (λ xs. column xs 1) is, (ap (λ xs. column xs 2) is, (ap (λ xs. column xs 3) is, (ap (λ xs. column xs 4) is, tt)))))) (short_row tickets.key tickets.columns r typed)

pub holds_tickets : (form : Form) (db : Database) → IsDatabase db → IsIn form db.schema → (all : List StoredTicket) → ShowsAll db.trees 5 ticket_terms (map spec.ticket_shown all) → rises (λ a b. nat_lt a.ticket b.ticket) all ≡ true
    → HoldsMap ticket_columns (db.trees 5) (spec.ticket_map all)
holds_tickets form db sound has all shows up =
    let same = subst (IsPermutation (map (shown_by ticket_terms) (db.trees 5))) (sym (map-map (λ (e : ℕ × TicketRow). Int (pos e.0) ∷ ticket_columns e.1) spec.ticket_entry all)) shows in
    let sorted = sorted_if_rises nat_cmp nat_cmp_total spec.ticket_entry all (sym (rises_same _ _ (λ (a b : StoredTicket). number_below a.ticket b.ticket) all) ∙ up) in
    holds_keyed ticket_columns un_tickets back_tickets ticket_terms (λ _. refl) (db.trees 5) (map spec.ticket_entry all) same
    (all_weaker _ _ alike_tickets (db.trees 5) (typed form db sound has).tickets) sorted

-- ---- batches

alike_batches : (r : Row) → are_typed batches.key 0 batches.columns (drop 1 r) ≡ true → (e : ℕ × BatchRow) → shown_by batch_terms r ≡ Int (pos e.0) ∷ batch_columns e.1 → ReadAlike r (row_of batch_columns (pos e.0, e))
alike_batches r typed e is = reads_alike r (row_of batch_columns (pos e.0, e)) (ap (λ xs. column xs 0) is, (key_empty batches.columns r typed, (ap (λ xs. column xs 1) is, (ap (λ xs. column xs 2) is, (ap (λ xs. column xs 3) is, tt))))) (short_row batches.key batches.columns r typed)

pub holds_batches : (form : Form) (db : Database) → IsDatabase db → IsIn form db.schema → (all : List StoredBatch) → ShowsAll db.trees 10 batch_terms (map spec.batch_shown all) → rises (λ a b. nat_lt a.day b.day) all ≡ true
    → HoldsMap batch_columns (db.trees 10) (spec.batch_map all)
holds_batches form db sound has all shows up =
    let same = subst (IsPermutation (map (shown_by batch_terms) (db.trees 10))) (sym (map-map (λ (e : ℕ × BatchRow). Int (pos e.0) ∷ batch_columns e.1) spec.batch_entry all)) shows in
    let sorted = sorted_if_rises nat_cmp nat_cmp_total spec.batch_entry all (sym (rises_same _ _ (λ (a b : StoredBatch). number_below a.day b.day) all) ∙ up) in
    holds_keyed batch_columns un_batches back_batches batch_terms (λ _. refl) (db.trees 10) (map spec.batch_entry all) same
    (all_weaker _ _ alike_batches (db.trees 10) (typed form db sound has).batches) sorted

-- ---- replies

alike_replies : (r : Row) → are_typed replies.key 0 replies.columns (drop 1 r) ≡ true → (e : ℕ × ReplyRow) → shown_by reply_terms r ≡ Int (pos e.0) ∷ reply_columns e.1 → ReadAlike r (row_of reply_columns (pos e.0, e))
alike_replies r typed e is = reads_alike r (row_of reply_columns (pos e.0, e)) (ap (λ xs. column xs 0) is, (key_empty replies.columns r typed, (ap (λ xs. column xs 1) is, (ap (λ xs. column xs 2) is, tt)))) (short_row replies.key replies.columns r typed)

pub holds_replies : (form : Form) → form ≢ Current → (db : Database) → IsDatabase db → IsIn form db.schema → (all : List StoredReply) → ShowsAll db.trees 11 reply_terms (map spec.reply_shown all) → rises (λ a b. nat_lt a.number b.number) all ≡ true
    → HoldsMap reply_columns (db.trees 11) (inner.reply_map all)
holds_replies form earlier db sound has all shows up =
    let same = subst (IsPermutation (map (shown_by reply_terms) (db.trees 11))) (sym (map-map (λ (e : ℕ × ReplyRow). Int (pos e.0) ∷ reply_columns e.1) inner.reply_entry all)) shows in
    let sorted = sorted_if_rises nat_cmp nat_cmp_total inner.reply_entry all (sym (rises_same _ _ (λ (a b : StoredReply). number_below a.number b.number) all) ∙ up) in
    holds_keyed reply_columns un_replies back_replies reply_terms (λ _. refl) (db.trees 11) (map inner.reply_entry all) same
    (all_weaker _ _ alike_replies (db.trees 11) (typed_replies form earlier db sound has)) sorted

-- ---- answers

alike_answers : (r : Row) → are_typed answers.key 0 answers.columns (drop 1 r) ≡ true → (i : ℤ) (e : (ℕ × ℕ) × ReplyRow) → column r 0 ≡ Int i → shown_by answer_terms r ≡ Int (pos e.0.0) ∷ Int (pos e.0.1) ∷ reply_columns e.1
    → ReadAlike r (stored reply_columns (i, e))
alike_answers r typed i e first is = reads_alike r (stored reply_columns (i, e)) (first, (ap (λ xs. column xs 0) is, (ap (λ xs. column xs 1) is, (ap (λ xs. column xs 2) is, (ap (λ xs. column xs 3) is, tt))))) (short_row answers.key answers.columns r typed)

pub holds_answers : (db : Database) → IsDatabase db → HasCounterTables db.schema → (all : List StoredAnswer) (ids : List Rowid) → ShowsAll db.trees 13 answer_terms (map inner.answer_shown all)
    → rises (λ a b. pair_lt (a.desk, a.number) (b.desk, b.number)) all ≡ true → ShowsAll db.trees 13 rowid_terms (map (λ it. Int it.rowid ∷ []) ids) → rises (λ a b. int_lt a.rowid b.rowid) ids ≡ true
    → HoldsPairs reply_columns (db.trees 13) (spec.answer_map all)
holds_answers db sound has all ids shows up numbers ids_up =
    let same = subst (IsPermutation (map (shown_by answer_terms) (db.trees 13))) (sym (map-map (λ (e : (ℕ × ℕ) × ReplyRow). Int (pos e.0.0) ∷ Int (pos e.0.1) ∷ reply_columns e.1) answer_entry all)) shows in
    let rowids = subst (IsPermutation (map (shown_by rowid_terms) (db.trees 13))) (sym (map-map (λ (j : ℤ). Int j ∷ []) (λ (it : Rowid). it.rowid) ids)) numbers in
    let sorted = sorted_if_rises pair_cmp pair_total answer_entry all (sym (rises_same _ _ (λ (a b : StoredAnswer). pair_below (a.desk, a.number) (b.desk, b.number)) all) ∙ up) in
    let types = typed_rows (with_others (others_in db.schema)) db.trees answers (keeps_types (with_others (others_in db.schema)) db sound has.ours).1.1.1.1.1.1.1.0 in
    holds_pairs reply_columns un_replies back_replies answer_terms (db.trees 13) (map answer_entry all) (map (λ (it : Rowid). it.rowid) ids) same rowids
    (all_weaker _ _ alike_answers (db.trees 13) types) (apart_if_rises (λ (it : Rowid). it.rowid) ids ids_up) sorted

-- ---- bonds

alike_bonds : (r : Row) → are_typed bonds.key 0 bonds.columns (drop 1 r) ≡ true → (i : ℤ) (e : (ℕ × ℕ) × BondRow) → column r 0 ≡ Int i → shown_by bond_terms r ≡ Int (pos e.0.0) ∷ Int (pos e.0.1) ∷ bond_columns e.1
    → ReadAlike r (stored bond_columns (i, e))
alike_bonds r typed i e first is = reads_alike r (stored bond_columns (i, e)) (first, (ap (λ xs. column xs 0) is, (ap (λ xs. column xs 1) is, (ap (λ xs. column xs 2) is, (ap (λ xs. column xs 3) is, (ap (λ xs. column xs 4) is, (ap (λ xs. column xs 5) is, (ap (λ xs. column xs 6) is, tt)))))))) (short_row bonds.key bonds.columns r typed)

pub holds_bonds : (form : Form) (db : Database) → IsDatabase db → IsIn form db.schema → (all : List Held) (ids : List Rowid) → ShowsAll db.trees 2 bond_terms (map inner.bond_shown all)
    → rises (λ a b. pair_lt (key_of a.bond.serial) (key_of b.bond.serial)) all ≡ true → ShowsAll db.trees 2 rowid_terms (map (λ it. Int it.rowid ∷ []) ids) → rises (λ a b. int_lt a.rowid b.rowid) ids ≡ true
    → HoldsPairs bond_columns (db.trees 2) (spec.bond_map all)
holds_bonds form db sound has all ids shows up numbers ids_up =
    let same = subst (IsPermutation (map (shown_by bond_terms) (db.trees 2))) (sym (map-map (λ (e : (ℕ × ℕ) × BondRow). Int (pos e.0.0) ∷ Int (pos e.0.1) ∷ bond_columns e.1) spec.bond_entry all)) shows in
    let rowids = subst (IsPermutation (map (shown_by rowid_terms) (db.trees 2))) (sym (map-map (λ (j : ℤ). Int j ∷ []) (λ (it : Rowid). it.rowid) ids)) numbers in
    let sorted = sorted_if_rises pair_cmp pair_total spec.bond_entry all (sym (rises_same _ _ (λ (a b : Held). pair_below (key_of a.bond.serial) (key_of b.bond.serial)) all) ∙ up) in
    holds_pairs bond_columns un_bonds back_bonds bond_terms (db.trees 2) (map spec.bond_entry all) (map (λ (it : Rowid). it.rowid) ids) same rowids
    (all_weaker _ _ alike_bonds (db.trees 2) (typed form db sound has).bonds) (apart_if_rises (λ (it : Rowid). it.rowid) ids ids_up) sorted

-- ---- lines

alike_lines : (r : Row) → are_typed paid.key 0 paid.columns (drop 1 r) ≡ true → (i : ℤ) (e : (ℕ × ℕ) × PaidRow) → column r 0 ≡ Int i → shown_by line_terms r ≡ Int (pos e.0.0) ∷ Int (pos e.0.1) ∷ paid_columns e.1
    → ReadAlike r (stored paid_columns (i, e))
alike_lines r typed i e first is = reads_alike r (stored paid_columns (i, e)) (first, (ap (λ xs. column xs 0) is, (ap (λ xs. column xs 1) is, (ap (λ xs. column xs 2) is, (ap (λ xs. column xs 3) is, (ap (λ xs. column xs 4) is, tt)))))) (short_row paid.key paid.columns r typed)

pub holds_lines : (form : Form) (db : Database) → IsDatabase db → IsIn form db.schema → (all : List StoredLine) (ids : List Rowid) → ShowsAll db.trees 7 line_terms (map spec.line_shown all)
    → rises (λ a b. pair_lt (a.ticket, a.place) (b.ticket, b.place)) all ≡ true → ShowsAll db.trees 7 rowid_terms (map (λ it. Int it.rowid ∷ []) ids) → rises (λ a b. int_lt a.rowid b.rowid) ids ≡ true
    → HoldsPairs paid_columns (db.trees 7) (spec.line_map all)
holds_lines form db sound has all ids shows up numbers ids_up =
    let same = subst (IsPermutation (map (shown_by line_terms) (db.trees 7))) (sym (map-map (λ (e : (ℕ × ℕ) × PaidRow). Int (pos e.0.0) ∷ Int (pos e.0.1) ∷ paid_columns e.1) spec.line_entry all)) shows in
    let rowids = subst (IsPermutation (map (shown_by rowid_terms) (db.trees 7))) (sym (map-map (λ (j : ℤ). Int j ∷ []) (λ (it : Rowid). it.rowid) ids)) numbers in
    let sorted = sorted_if_rises pair_cmp pair_total spec.line_entry all (sym (rises_same _ _ (λ (a b : StoredLine). pair_below (a.ticket, a.place) (b.ticket, b.place)) all) ∙ up) in
    holds_pairs paid_columns un_lines back_lines line_terms (db.trees 7) (map spec.line_entry all) (map (λ (it : Rowid). it.rowid) ids) same rowids
    (all_weaker _ _ alike_lines (db.trees 7) (typed form db sound has).paid) (apart_if_rises (λ (it : Rowid). it.rowid) ids ids_up) sorted

pub listed_desk : (all : List StoredDesk) → rises (λ a b. nat_lt a.id b.id) all ≡ true → entries (spec.desk_map all) ≡ map spec.desk_entry all
listed_desk all up = entries-from_sorted nat_cmp (map spec.desk_entry all) (sorted_if_rises nat_cmp nat_cmp_total spec.desk_entry all (sym (rises_same _ _ (λ (a b : StoredDesk). number_below a.id b.id) all) ∙ up))

pub listed_rates : (all : List StoredRate) → rises (λ a b. nat_lt a.period b.period) all ≡ true → entries (spec.rate_map all) ≡ map spec.rate_entry all
listed_rates all up = entries-from_sorted nat_cmp (map spec.rate_entry all) (sorted_if_rises nat_cmp nat_cmp_total spec.rate_entry all (sym (rises_same _ _ (λ (a b : StoredRate). number_below a.period b.period) all) ∙ up))

pub listed_tickets : (all : List StoredTicket) → rises (λ a b. nat_lt a.ticket b.ticket) all ≡ true → entries (spec.ticket_map all) ≡ map spec.ticket_entry all
listed_tickets all up = entries-from_sorted nat_cmp (map spec.ticket_entry all) (sorted_if_rises nat_cmp nat_cmp_total spec.ticket_entry all (sym (rises_same _ _ (λ (a b : StoredTicket). number_below a.ticket b.ticket) all) ∙ up))

pub listed_batches : (all : List StoredBatch) → rises (λ a b. nat_lt a.day b.day) all ≡ true → entries (spec.batch_map all) ≡ map spec.batch_entry all
listed_batches all up = entries-from_sorted nat_cmp (map spec.batch_entry all) (sorted_if_rises nat_cmp nat_cmp_total spec.batch_entry all (sym (rises_same _ _ (λ (a b : StoredBatch). number_below a.day b.day) all) ∙ up))

pub listed_replies : (all : List StoredReply) → rises (λ a b. nat_lt a.number b.number) all ≡ true → entries (inner.reply_map all) ≡ map inner.reply_entry all
listed_replies all up = entries-from_sorted nat_cmp (map inner.reply_entry all) (sorted_if_rises nat_cmp nat_cmp_total inner.reply_entry all (sym (rises_same _ _ (λ (a b : StoredReply). number_below a.number b.number) all) ∙ up))

pub listed_bonds : (all : List Held) → rises (λ a b. pair_lt (key_of a.bond.serial) (key_of b.bond.serial)) all ≡ true → entries (spec.bond_map all) ≡ map spec.bond_entry all
listed_bonds all up = entries-from_sorted pair_cmp (map spec.bond_entry all) (sorted_if_rises pair_cmp pair_total spec.bond_entry all (sym (rises_same _ _ (λ (a b : Held). pair_below (key_of a.bond.serial) (key_of b.bond.serial)) all) ∙ up))

pub listed_lines : (all : List StoredLine) → rises (λ a b. pair_lt (a.ticket, a.place) (b.ticket, b.place)) all ≡ true → entries (spec.line_map all) ≡ map spec.line_entry all
listed_lines all up = entries-from_sorted pair_cmp (map spec.line_entry all) (sorted_if_rises pair_cmp pair_total spec.line_entry all (sym (rises_same _ _ (λ (a b : StoredLine). pair_below (a.ticket, a.place) (b.ticket, b.place)) all) ∙ up))

pub listed_answers : (all : List StoredAnswer) → rises (λ a b. pair_lt (a.desk, a.number) (b.desk, b.number)) all ≡ true → entries (spec.answer_map all) ≡ map answer_entry all
listed_answers all up = entries-from_sorted pair_cmp (map answer_entry all) (sorted_if_rises pair_cmp pair_total answer_entry all (sym (rises_same _ _ (λ (a b : StoredAnswer). pair_below (a.desk, a.number) (b.desk, b.number)) all) ∙ up))
