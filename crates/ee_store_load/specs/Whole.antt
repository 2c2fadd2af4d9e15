-- All rows of a store, and what is read of them.
use Rattle.std.specs.Prelude.{◌≡◌, ◌≢◌, ◌↔◌, true, List, T, map}
use Rattle.std.specs.List.{AllByRecursion}
use Rattle.std.specs.Ordering.{nat_cmp}
use Rattle.std.specs.FinMap.{FinMap, is_sorted}
use Rattle.ee_store_tables.specs.Keyed.{pair_cmp}
use Rattle.ee_store_tables.specs.Rows.{Rows, ReplyRow}
use Rattle.ee_store_schema.specs.declared.answers.StoredAnswer.{StoredAnswer}
use Rattle.ee_store_schema.specs.declared.forms.Form.{Form}
use Rattle.ee_store_schema.specs.declared.forms.Form.TheVariants.{Current}
use Rattle.ee_store_schema.specs.Migrating.{answer_entry}
use Rattle.ee_store_load.specs.declared.tables.KeptReplies.{KeptReplies}
use Rattle.ee_store_load.specs.declared.whole.AllRows.{AllRows}
use Rattle.ee_store_load.specs.Shown.{desk_map, rate_map, bond_map, ticket_map, line_map, batch_map, answer_map, desk_entry, rate_entry, bond_entry, ticket_entry, line_entry, batch_entry}

-- all rows that were read, with these kept replies
abbrev pub rows_with : FinMap pair_cmp ReplyRow → AllRows → Rows
rows_with kept all = record {
  desk = desk_map all.desk.items;
  rates = rate_map all.rates.items;
  bonds = bond_map all.bonds.items;
  tickets = ticket_map all.tickets.items;
  paid = line_map all.lines.items;
  batches = batch_map all.batches.items;
  extensions = rate_map all.extensions.items;
  answers = kept;
}

-- The rows of each table that were read are ordered by key, and no key occurs twice.
pub record AreInOrder (all : AllRows) : Type 0 where
  pub desk : T (is_sorted nat_cmp (map desk_entry all.desk.items))
  pub rates : T (is_sorted nat_cmp (map rate_entry all.rates.items))
  pub bonds : T (is_sorted pair_cmp (map bond_entry all.bonds.items))
  pub tickets : T (is_sorted nat_cmp (map ticket_entry all.tickets.items))
  pub lines : T (is_sorted pair_cmp (map line_entry all.lines.items))
  pub batches : T (is_sorted nat_cmp (map batch_entry all.batches.items))
  pub extensions : T (is_sorted nat_cmp (map rate_entry all.extensions.items))
  pub earlier : T (is_sorted pair_cmp (map answer_entry all.replies.earlier.items))

-- These are the kept replies that were read, by key. The result says whether each passed its test, and has those of version 1.
pub record AreTested (Passes : StoredAnswer → Type 0) (form : Form) (read : KeptReplies) (kept : List StoredAnswer) : Type 0 where
  pub in_order : T (is_sorted pair_cmp (map answer_entry kept))
  pub pass : (read.pass ≡ true) ↔ AllByRecursion Passes kept
  pub earlier : form ≢ Current → read.earlier.items ≡ kept

-- These rows were read: the kept replies were tested, and all others are here.
pub record AreRead (Passes : StoredAnswer → Type 0) (all : AllRows) (rows : Rows) : Type 0 where
  pub kept : List StoredAnswer
  pub tested : AreTested Passes all.form all.replies kept
  pub are : rows ≡ rows_with (answer_map kept) all
