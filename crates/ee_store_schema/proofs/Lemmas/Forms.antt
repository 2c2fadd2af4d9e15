-- What each form of the tables has, and that a store has one form.
use Rattle.std.proofs.Common.{◌≡◌, ◌≢◌, IsTrue, ℕ, length, map, refl, sym, ap, subst, ◌∙◌, arith, [], Ordering}
use Rattle.std.specs.Prelude.{sum, take}
use Rattle.std.specs.FinMap.{empty, entries, len-empty, len-entries}
use Rattle.std.proofs.lemmas.List.{nil_from_length}
use Rattle.sqlite.specs.Effect.{Database, IsDatabase}
use Rattle.sqlite.specs.Schema.{Schema}
use Rattle.sqlite.specs.Table.{Table}
use Rattle.sqlite.specs.Tree.{Trees}
use Rattle.sqlite.specs.State.{State, KeepsCommit}
use Rattle.sqlite_trees.specs.Objects.{catalog_tree}
use Rattle.sqlite_catalog.specs.Listing.{IsSound}
use Rattle.sqlite_catalog.proofs.ReadLemmas.{lists_once}
use Rattle.ee_store_tables.specs.Tables.{with_others, others_in}
use Rattle.ee_store_tables.specs.Keyed.{HoldsMap, HoldsPairs}
use Rattle.ee_store_tables.specs.Rows.{Rows, desk_columns, rate_columns, bond_columns, ticket_columns, paid_columns, batch_columns}
use Rattle.ee_store_tables.proofs.Lemmas.Meeting as present
use Rattle.ee_store_schema.specs.declared.forms.Form.{Form}
use Rattle.ee_store_schema.specs.declared.forms.Form.TheVariants.{Current, First, Earliest}
use Rattle.ee_store_schema.specs.Forms.{first_tables, earliest_tables, IsIn, HoldsIn, StoresIn, HasForm, IsOurs, HadIn}
use Rattle.ee_store_schema.specs.Inner.Forms.{SeesForm, SeesSchema}
use Rattle.ee_store_schema.specs.Making.{IsBlank, no_tables}

-- ---- the rows of the tables that each form has

pub record HoldsCommon (db : Trees) (rows : Rows) : Type 0 where
  pub desk : HoldsMap desk_columns (db 0) rows.desk
  pub rates : HoldsMap rate_columns (db 1) rows.rates
  pub bonds : HoldsPairs bond_columns (db 2) rows.bonds
  pub tickets : HoldsMap ticket_columns (db 5) rows.tickets
  pub paid : HoldsPairs paid_columns (db 7) rows.paid
  pub batches : HoldsMap batch_columns (db 10) rows.batches

pub common : (form : Form) (db : Trees) (rows : Rows) → HoldsIn form db rows → HoldsCommon db rows
common Current db rows h = record { desk = h.desk; rates = h.rates; bonds = h.bonds; tickets = h.tickets; paid = h.paid; batches = h.batches }
common First db rows h = record { desk = h.desk; rates = h.rates; bonds = h.bonds; tickets = h.tickets; paid = h.paid; batches = h.batches }
common Earliest db rows h = record { desk = h.desk; rates = h.rates; bonds = h.bonds; tickets = h.tickets; paid = h.paid; batches = h.batches }

-- ---- one form

-- the tables of this form, and what follows them in this schema
abbrev pub tables_in : Form → Schema → Schema
tables_in Current schema = with_others (others_in schema)
tables_in First schema = first_tables
tables_in Earliest schema = earliest_tables

-- a schema with the tables of a form has these and what follows them
pub in_form : (form : Form) (schema : Schema) → IsIn form schema → schema ≡ tables_in form schema
in_form Current schema is = is.ours
in_form First schema is = is
in_form Earliest schema is = is

-- the trees of the seventh table and of those before it, added up
abbrev seventh : Schema → ℕ
seventh schema = sum (map (λ (t : Table). t.tree) (take 7 schema.tables))

abbrev count : Schema → ℕ
count schema = length schema.tables

-- a table of replies isn't one of extensions
pub one_form : (a b : Form) (schema : Schema) → IsIn a schema → IsIn b schema → a ≡ b
one_form Current Current schema one two = refl
one_form Current First schema one two = absurd (let trees : 37 ≡ 36 = sym (ap seventh one.ours) ∙ ap seventh two in omega (arith, trees))
one_form Current Earliest schema one two = absurd (let trees : 37 ≡ 36 = sym (ap seventh one.ours) ∙ ap seventh two in omega (arith, trees))
one_form First Current schema one two = absurd (let trees : 37 ≡ 36 = sym (ap seventh two.ours) ∙ ap seventh one in omega (arith, trees))
one_form First First schema one two = refl
one_form First Earliest schema one two = absurd (let counts : 8 ≡ 7 = sym (ap count one) ∙ ap count two in omega (arith, counts))
one_form Earliest Current schema one two = absurd (let trees : 37 ≡ 36 = sym (ap seventh two.ours) ∙ ap seventh one in omega (arith, trees))
one_form Earliest First schema one two = absurd (let counts : 8 ≡ 7 = sym (ap count two) ∙ ap count one in omega (arith, counts))
one_form Earliest Earliest schema one two = refl

-- a form has tables
pub some_tables : (form : Form) → ¬ IsIn form no_tables
some_tables form is = go form (in_form form no_tables is)
  where
    go : (form : Form) → no_tables ≡ tables_in form no_tables → ⊥
    go Current is = let counts = ap count is in cc
    go First is = let counts = ap count is in cc
    go Earliest is = let counts = ap count is in cc

-- so a transaction that sees a form sees the tables of this schema
pub sees_tables : (form : Form) (s : State) → SeesForm form s → SeesSchema (tables_in form s.now.schema) s
sees_tables form s sees is_open = in_form form s.now.schema (sees is_open)

module _ (form : Form) (s : State) (rows : Rows) where
  pub had_form : HadIn form s rows → HasForm form s
  had_form had is_open = (had is_open).0

  -- rows that a store has in some form it has in the form of its tables
  pub had_as : (other : Form) → HasForm form s → HadIn other s rows → HadIn form s rows
  had_as other ours had is_open = (ours is_open, subst (λ f. HoldsIn f s.committed.trees rows) (one_form other form s.committed.schema (had is_open).0 (ours is_open)) (had is_open).1)

-- what a store has it has while nothing is committed
pub kept_had : (form : Form) (old new : State) (rows : Rows) → KeepsCommit old new → HadIn form old rows → HadIn form new rows
kept_had form old new rows keeps had is_open =
    let it = had (keeps.was_open is_open) in
    let same = keeps.committed is_open in
    (subst (λ (d : Database). IsIn form d.schema) (sym same) it.0, subst (λ (d : Database). HoldsIn form d.trees rows) (sym same) it.1)

-- ---- the form that was found

module _ (s : State) (settled : IsTrue s.is_open → s.now ≡ s.committed) (shown : Schema) (is : shown ≡ s.now.schema) where
  pub form_found : (form : Form) → IsIn form shown → HasForm form s
  form_found form found is_open = subst (λ (d : Database). IsIn form d.schema) (settled is_open) (subst (IsIn form) is found)

  -- a store that has none of them isn't of this program
  pub none_found : ((form : Form) → IsIn form shown → ⊥) → IsOurs s → IsTrue s.is_open → ⊥
  none_found none ours is_open = none ours.0 (subst (IsIn ours.0) (sym is) (subst (λ (d : Database). IsIn ours.0 d.schema) (sym (settled is_open)) (ours.1 is_open)))

pub not_blank : (form : Form) (s : State) → HasForm form s → IsBlank s → IsTrue s.is_open → ⊥
not_blank form s ours blank is_open = some_tables form (subst (IsIn form) (blank is_open) (ours is_open))

-- a store that has an earlier form lacks the present one
pub lacks_current : (form : Form) (s : State) → form ≢ Current → HasForm form s → IsTrue s.is_open → ¬ HasForm Current s
lacks_current form s earlier ours is_open current = earlier (one_form form Current s.committed.schema (ours is_open) (current is_open))

-- ---- what lies in trees, and what a connection over them has

pub had_stored : (form : Form) (s : State) (rows : Rows) → (IsTrue s.is_open → IsDatabase s.committed) → StoresIn form s.committed.trees rows → HadIn form s rows
had_stored Current s rows live stores is_open = present.has_stored s rows live stores is_open
had_stored First s rows live stores is_open =
    (lists_once (s.committed.trees catalog_tree) s.committed.schema first_tables (live is_open).lists stores.sound.lists, stores.holds)
had_stored Earliest s rows live stores is_open =
    (lists_once (s.committed.trees catalog_tree) s.committed.schema earliest_tables (live is_open).lists stores.sound.lists, stores.holds)

pub stored_had : (form : Form) (s : State) (rows : Rows) → IsTrue s.is_open → IsDatabase s.committed → HadIn form s rows → StoresIn form s.committed.trees rows
stored_had Current s rows is_open sound had = present.stored_has s rows is_open sound had
stored_had First s rows is_open sound had = let it = had is_open in record { sound = subst (λ schema. IsSound schema s.committed.trees) it.0 sound; holds = it.1 }
stored_had Earliest s rows is_open sound had = let it = had is_open in record { sound = subst (λ schema. IsSound schema s.committed.trees) it.0 sound; holds = it.1 }

-- ---- an empty map has no entries

pub no_entries : {K X : Type 0} (R : K → K → Ordering) → entries (empty {X = X} {R = R}) ≡ []
no_entries {X = X} R = nil_from_length _ (sym (len-entries (empty {X = X} {R = R})) ∙ len-empty R X)
