-- Tables and indexes that `sqlite` has no reason to refuse.
use Rattle.std.proofs.Common.{◌≡◌, ◌<◌, ◌+◌, ◌*◌, ◌^◌, inl, inr, ℕ, List, [], ◌∷◌, codes, length, true, false, Some, zero, suc, Ok, refl, sym, ap, subst, ◌∙◌, arith}
use Rattle.std.specs.Prelude.{IsUtf8, nat_lt, slice_get, slice_index}
use Rattle.std.specs.Float.Ieee
use Rattle.std.specs.List.{AllByRecursion, list_all}
use Rattle.std.proofs.lemmas.Str.{IsUtf8-from_ascii}
use Rattle.std.proofs.lemmas.Bool.Decides.{nat_tests}
use Rattle.std.proofs.lemmas.Bool.{and_parts}
use Rattle.sqlite.specs.Order.{Row}
use Rattle.sqlite.specs.Tree.{Trees}
use Rattle.sqlite.specs.Schema.{Schema}
use Rattle.sqlite.specs.Table.{Table}
use Rattle.sqlite_schema.specs.declared.schema.Index.{Index}
use Rattle.sqlite_value.specs.declared.value.Value.TheVariants.{Text}
use Rattle.sqlite_value.specs.Order.{value_cmp}
use Rattle.sqlite_schema.specs.Names as names
use Rattle.sqlite_schema.specs.Rules.{table_reals, index_reals, passes}
use Rattle.sqlite_schema.specs.declared.schema.Constraint.TheVariants.{Unique}
use Rattle.sqlite_trees.specs.Sound.{fits_kind, begins, is_free_name, same_name}
use Rattle.sqlite_catalog.specs.declared.error.Refusal.{Refusal}
use Rattle.sqlite_catalog.specs.declared.error.Refusal.TheVariants as why
use Rattle.sqlite_catalog.specs.Listing.{is_fit, is_formed}
use Rattle.sqlite_catalog.specs.Change.{is_used, is_reserved, next_tree, indexed}
use Rattle.sqlite_catalog.specs.Calls.{RefusesTable, RefusesIndex}
use Rattle.sqlite_rules.specs.Lists.{Has}
use Rattle.sqlite_resolve.specs.Compile.{table_defined_by, index_defined_by}
use Rattle.sqlite_tied.specs.Compute.{everything}
use Rattle.sqlite.specs.Listing.{understood}
use Rattle.ee_store_tables.proofs.Lemmas.Rows.{same_ok}
use Rattle.ee_store_schema.specs.Forms.{first_tables, earliest_tables}
use Rattle.ee_store_schema.specs.Making.{no_tables}
use Rattle.ee_store_schema.specs.Inner.Making.{register_tables, payment_tables, both_tables, AddsTable, AddsIndex, TakesTable, TakesIndex}
use Rattle.ee_store_schema.specs.Inner.Asking.{IsOneStatement}
use Rattle.ee_store_schema.proofs.Lemmas.Causes.{never_both}
use Rattle.ee_store_schema.proofs.MakeUsable.{has_free, name_free}
use Rattle.ee_store_schema.proofs.TextLemmas.{desk_text, rates_text, bonds_text, owner_text, tickets_text, day_text, paid_text, batches_text, replies_text, extensions_text, answers_text, with_desk, with_rates, with_bonds, with_tickets, with_days, with_batches, adds_desk, adds_rates, adds_bonds, adds_owner, adds_tickets, adds_day, adds_paid, adds_batches, adds_replies, adds_extensions, adds_answers}

-- ---- tables

ascii_at : (bs : List ℕ) → list_all (λ b. nat_lt b 128) bs ≡ true → (i : ℕ) → slice_index bs i < 128
ascii_at [] all i = omega arith
ascii_at (b ∷ bs) all zero = let low = (and_parts (nat_lt b 128) _ all).0 in grind (arith, nat_tests)
ascii_at (b ∷ bs) all (suc i) = ascii_at bs (and_parts (nat_lt b 128) _ all).1 i

ascii : (bs : List ℕ) → list_all (λ b. nat_lt b 128) bs ≡ true → IsUtf8 bs
ascii bs all = IsUtf8-from_ascii bs (ascii_at bs all)

-- what a text says of a table that can be made
record IsAllowed (before : Schema) (text : List ℕ) (table : Table) : Type 0 where
  statement : IsOneStatement text 0 (understood before text)
  named : IsUtf8 table.name
  unreserved : is_reserved table.name ≡ false
  formed : is_formed table ≡ true
  few : nat_lt (next_tree before + length table.uniques) 65536 ≡ true
  narrow : nat_lt (table_reals table) (2 ^ 64) ≡ true
  keys : list_all (λ key. nat_lt (index_reals (table_reals table) key) (2 ^ 64)) table.uniques ≡ true
  listed : is_fit (Text (codes "table")) (Text table.name) (Text table.name) (Text text) ≡ true
  short : nat_lt (2 * length table.name + length text + 200) (10 ^ 9) ≡ true

module _ (before after : Schema) (text : List ℕ) (adds : AddsTable before text after) (allowed : IsAllowed before text adds.table) where
  same : (table : Table) → table_defined_by text ≡ Ok table → adds.table ≡ table
  same table defined = same_ok (sym adds.defined ∙ defined)

  allows : (table : Table) → table_defined_by text ≡ Ok table → IsAllowed before text table
  allows table defined = subst (IsAllowed before text) (same table defined) allowed

  table_taken : (reason : Refusal) → ¬ RefusesTable before text reason
  table_taken (why.Invalid e) h = let it = sym adds.defined ∙ h in cc
  table_taken why.NameTaken h = name_free before after text adds h
  table_taken why.BadName (table, defined, inl utf8) = utf8 (allows table defined).named
  table_taken why.BadName (table, defined, inr reserved) = never_both (is_reserved table.name) reserved.0 (allows table defined).unreserved
  table_taken why.TooBig (table, defined, inl many) = let few = (allows table defined).few in absurd (grind (arith, nat_tests))
  table_taken why.TooBig (table, defined, inr (inl wide)) = let narrow = (allows table defined).narrow in absurd (grind (arith, nat_tests))
  table_taken why.TooBig (table, defined, inr (inr (key, has, wide))) =
      let narrow = has_free (λ (k : List ℕ). nat_lt (index_reals (table_reals table) k) (2 ^ 64)) table.uniques key (allows table defined).keys has in absurd (grind (arith, nat_tests))
  table_taken why.BadKey (table, defined, bad) = never_both (is_formed table) (allows table defined).formed bad
  table_taken why.BadText (table, defined, bad) = never_both _ (allows table defined).listed bad
  table_taken (why.Violates rule) h = h

  takes_table : TakesTable before text
  takes_table = record { statement = allowed.statement; taken = table_taken; short = λ h. let short = (allows h.0 h.1).short in absurd (grind (arith, nat_tests)) }

-- ---- indexes

-- likewise of an index
record IsAllowedIndex (before : Schema) (text : List ℕ) (table : Table) (index : Index) : Type 0 where
  statement : IsOneStatement text 0 (understood before text)
  named : IsUtf8 index.name
  owner : IsUtf8 table.name
  unreserved : is_reserved index.name ≡ false
  few : nat_lt (next_tree before) 65536 ≡ true
  narrow : nat_lt (table_reals table) (2 ^ 64) ≡ true
  key : nat_lt (index_reals (table_reals table) index.columns) (2 ^ 64) ≡ true
  listed : is_fit (Text (codes "index")) (Text index.name) (Text table.name) (Text text) ≡ true
  short : nat_lt (length index.name + length table.name + length text + 200) (10 ^ 9) ≡ true

same_some : {X : Type 0} {a b : X} → Some a ≡ Some b → a ≡ b
same_some e = cc

all_found : {X : Type 0} (P : X → Type 0) (xs : List X) (at : ℕ) (x : X) → AllByRecursion P xs → slice_get xs at ≡ Some x → P x
all_found P [] at x all is = absurd cc
all_found P (y ∷ ys) zero x all is = subst P (same_some is) all.0
all_found P (y ∷ ys) (suc at) x all is = all_found P ys at x all.1 is

-- tables with no rows keep each rule
keeps_none : (P : Table → Row → Type 0) (tables : List Table) (db : Trees) → AllByRecursion (λ t. db t.tree ≡ []) tables → AllByRecursion (λ t. AllByRecursion (P t) (db t.tree)) tables
keeps_none P [] db none = tt
keeps_none P (t ∷ ts) db none = (subst (AllByRecursion (P t)) (sym none.0) tt, keeps_none P ts db none.1)

module _ (before after : Schema) (text : List ℕ) (adds : AddsIndex before text after) (allowed : IsAllowedIndex before text adds.table adds.index) where
  allows_index : (index : Index) → index_defined_by adds.table text ≡ Ok index → IsAllowedIndex before text adds.table index
  allows_index index defined = subst (IsAllowedIndex before text adds.table) (same_ok (sym adds.defined ∙ defined)) allowed

  index_taken : (db : Trees) → AllByRecursion (λ t. db t.tree ≡ []) before.tables → (reason : Refusal) → ¬ RefusesIndex before db adds.table text reason
  index_taken db none (why.Invalid e) h = let it = sym adds.defined ∙ h in cc
  index_taken db none why.NameTaken (index, defined, used) = let same : adds.index ≡ index = same_ok (sym adds.defined ∙ defined) in never_both _ (ap (λ (i : Index). is_used before i.name) same ∙ used) adds.free
  index_taken db none why.BadName (index, defined, inl (inl utf8)) = utf8 (allows_index index defined).named
  index_taken db none why.BadName (index, defined, inl (inr reserved)) = never_both (is_reserved index.name) reserved.0 (allows_index index defined).unreserved
  index_taken db none why.BadName (index, defined, inr utf8) = utf8 (allows_index index defined).owner
  index_taken db none why.TooBig (index, defined, inl many) = let few = (allows_index index defined).few in absurd (grind (arith, nat_tests))
  index_taken db none why.TooBig (index, defined, inr (inl wide)) = let narrow = (allows_index index defined).narrow in absurd (grind (arith, nat_tests))
  index_taken db none why.TooBig (index, defined, inr (inr wide)) = let narrow = (allows_index index defined).key in absurd (grind (arith, nat_tests))
  index_taken db none why.BadKey h = h
  index_taken db none why.BadText (index, defined, bad) = never_both _ (allows_index index defined).listed bad
  index_taken db none (why.Violates rule) (index, defined, unique, broken) = broken (keeps_none (λ t row. passes Unique (indexed before adds.table index) db t row ≡ true) before.tables db none)

  no_row : (rows : List Row) (row : Row) → rows ≡ [] → ¬ Has rows row
  no_row rows row none has = subst (λ rs. Has rs row) none has

  takes_index : TakesIndex before text adds.table
  takes_index = record {
    statement = allowed.statement;
    taken = index_taken;
    short = λ db none h. elim h.2 [
      | inl long ↦ let short = (allows_index h.0 h.1).short in absurd (grind (arith, nat_tests))
      | inr row ↦ no_row (db adds.table.tree) row.0 (all_found (λ t. db t.tree ≡ []) before.tables adds.place adds.table none adds.over) row.1
    ];
  }

-- ---- the texts of this crate

allows_desk : IsAllowed no_tables desk_text adds_desk.table
unfolding adds_desk understood everything fits_kind begins is_free_name same_name names.same_name value_cmp Ieee.lt Ieee.is_nan
allows_desk = record {
  statement = (omega arith, refl, refl, refl);
  named = ascii (codes "desk") refl;
  unreserved = refl;
  formed = refl;
  few = refl;
  narrow = refl;
  keys = refl;
  listed = refl;
  short = refl;
}

pub takes_desk : TakesTable no_tables desk_text
takes_desk = takes_table no_tables with_desk desk_text adds_desk allows_desk

allows_rates : IsAllowed with_desk rates_text adds_rates.table
unfolding adds_rates understood everything fits_kind begins is_free_name same_name names.same_name value_cmp Ieee.lt Ieee.is_nan
allows_rates = record {
  statement = (omega arith, refl, refl, refl);
  named = ascii (codes "rates") refl;
  unreserved = refl;
  formed = refl;
  few = refl;
  narrow = refl;
  keys = refl;
  listed = refl;
  short = refl;
}

pub takes_rates : TakesTable with_desk rates_text
takes_rates = takes_table with_desk with_rates rates_text adds_rates allows_rates

allows_bonds : IsAllowed with_rates bonds_text adds_bonds.table
unfolding adds_bonds understood everything fits_kind begins is_free_name same_name names.same_name value_cmp Ieee.lt Ieee.is_nan
allows_bonds = record {
  statement = (omega arith, refl, refl, refl);
  named = ascii (codes "bonds") refl;
  unreserved = refl;
  formed = refl;
  few = refl;
  narrow = refl;
  keys = refl;
  listed = refl;
  short = refl;
}

pub takes_bonds : TakesTable with_rates bonds_text
takes_bonds = takes_table with_rates with_bonds bonds_text adds_bonds allows_bonds

allows_tickets : IsAllowed register_tables tickets_text adds_tickets.table
unfolding adds_tickets understood everything fits_kind begins is_free_name same_name names.same_name value_cmp Ieee.lt Ieee.is_nan
allows_tickets = record {
  statement = (omega arith, refl, refl, refl);
  named = ascii (codes "tickets") refl;
  unreserved = refl;
  formed = refl;
  few = refl;
  narrow = refl;
  keys = refl;
  listed = refl;
  short = refl;
}

pub takes_tickets : TakesTable register_tables tickets_text
takes_tickets = takes_table register_tables with_tickets tickets_text adds_tickets allows_tickets

allows_paid : IsAllowed with_days paid_text adds_paid.table
unfolding adds_paid understood everything fits_kind begins is_free_name same_name names.same_name value_cmp Ieee.lt Ieee.is_nan
allows_paid = record {
  statement = (omega arith, refl, refl, refl);
  named = ascii (codes "paid") refl;
  unreserved = refl;
  formed = refl;
  few = refl;
  narrow = refl;
  keys = refl;
  listed = refl;
  short = refl;
}

pub takes_paid : TakesTable with_days paid_text
takes_paid = takes_table with_days payment_tables paid_text adds_paid allows_paid

allows_batches : IsAllowed payment_tables batches_text adds_batches.table
unfolding adds_batches understood everything fits_kind begins is_free_name same_name names.same_name value_cmp Ieee.lt Ieee.is_nan
allows_batches = record {
  statement = (omega arith, refl, refl, refl);
  named = ascii (codes "batches") refl;
  unreserved = refl;
  formed = refl;
  few = refl;
  narrow = refl;
  keys = refl;
  listed = refl;
  short = refl;
}

pub takes_batches : TakesTable payment_tables batches_text
takes_batches = takes_table payment_tables with_batches batches_text adds_batches allows_batches

allows_replies : IsAllowed with_batches replies_text adds_replies.table
unfolding adds_replies understood everything fits_kind begins is_free_name same_name names.same_name value_cmp Ieee.lt Ieee.is_nan
allows_replies = record {
  statement = (omega arith, refl, refl, refl);
  named = ascii (codes "replies") refl;
  unreserved = refl;
  formed = refl;
  few = refl;
  narrow = refl;
  keys = refl;
  listed = refl;
  short = refl;
}

pub takes_replies : TakesTable with_batches replies_text
takes_replies = takes_table with_batches earliest_tables replies_text adds_replies allows_replies

allows_extensions : IsAllowed earliest_tables extensions_text adds_extensions.table
unfolding adds_extensions understood everything fits_kind begins is_free_name same_name names.same_name value_cmp Ieee.lt Ieee.is_nan
allows_extensions = record {
  statement = (omega arith, refl, refl, refl);
  named = ascii (codes "extensions") refl;
  unreserved = refl;
  formed = refl;
  few = refl;
  narrow = refl;
  keys = refl;
  listed = refl;
  short = refl;
}

pub takes_extensions : TakesTable earliest_tables extensions_text
takes_extensions = takes_table earliest_tables first_tables extensions_text adds_extensions allows_extensions

allows_answers : IsAllowed first_tables answers_text adds_answers.table
unfolding adds_answers understood everything fits_kind begins is_free_name same_name names.same_name value_cmp Ieee.lt Ieee.is_nan
allows_answers = record {
  statement = (omega arith, refl, refl, refl);
  named = ascii (codes "answers") refl;
  unreserved = refl;
  formed = refl;
  few = refl;
  narrow = refl;
  keys = refl;
  listed = refl;
  short = refl;
}

pub takes_answers : TakesTable first_tables answers_text
takes_answers = takes_table first_tables both_tables answers_text adds_answers allows_answers

allows_owner : IsAllowedIndex with_bonds owner_text adds_owner.table adds_owner.index
unfolding adds_owner understood everything fits_kind begins is_free_name same_name names.same_name value_cmp Ieee.lt Ieee.is_nan
allows_owner = record {
  statement = (omega arith, refl, refl, refl);
  named = ascii (codes "bonds_owner") refl;
  owner = ascii (codes "bonds") refl;
  unreserved = refl;
  few = refl;
  narrow = refl;
  key = refl;
  listed = refl;
  short = refl;
}

pub takes_owner : TakesIndex with_bonds owner_text adds_owner.table
takes_owner = takes_index with_bonds register_tables owner_text adds_owner allows_owner

allows_day : IsAllowedIndex with_tickets day_text adds_day.table adds_day.index
unfolding adds_day understood everything fits_kind begins is_free_name same_name names.same_name value_cmp Ieee.lt Ieee.is_nan
allows_day = record {
  statement = (omega arith, refl, refl, refl);
  named = ascii (codes "tickets_day") refl;
  owner = ascii (codes "tickets") refl;
  unreserved = refl;
  few = refl;
  narrow = refl;
  key = refl;
  listed = refl;
  short = refl;
}

pub takes_day : TakesIndex with_tickets day_text adds_day.table
takes_day = takes_index with_tickets with_days day_text adds_day allows_day
