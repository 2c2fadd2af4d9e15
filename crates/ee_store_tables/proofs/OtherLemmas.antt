-- Tables of others change nothing about a statement on the counter's tables, and it leaves them as they are.
use Rattle.std.proofs.Common.{◌≡◌, ◌≢◌, ◌<◌, ◌≤◌, ℕ, List, [], ◌∷◌, Bool, true, false, not, Option, Ok, refl, sym, ap, subst, ◌∙◌, arith}
use Rattle.std.specs.Prelude.{◌&&◌, ◌||◌, ◌==◌, nat_lt, length, if◌then◌else◌}
use Rattle.std.specs.List.{AllByRecursion, list_any, list_all, flat_map, filter_map}
use Rattle.std.proofs.Math.Bool.{or-true}
use Rattle.std.proofs.lemmas.Bool.{ne_eqb}
use Rattle.sqlite.specs.Order.{Row}
use Rattle.sqlite.specs.Schema.{Schema}
use Rattle.sqlite.specs.Table.{Table}
use Rattle.sqlite.specs.Tree.{Trees, with_tree}
use Rattle.sqlite.specs.Effect.{Database}
use Rattle.sqlite.proofs.Callers.{one_step}
use Rattle.sqlite_schema.specs.declared.schema.Index.{Index}
use Rattle.sqlite_schema.specs.declared.schema.Keys.{Keys}
use Rattle.sqlite_schema.specs.declared.schema.Keys.TheVariants.{Enforced}
use Rattle.sqlite_schema.specs.declared.schema.Reference.{Reference}
use Rattle.sqlite_schema.specs.declared.schema.Constraint.TheVariants.{Unique}
use Rattle.sqlite_schema.specs.declared.schema.Among.{Among}
use Rattle.sqlite_schema.specs.Rules.{guards, clashes, passes, is_key_if_to, is_among, has_parent, Refers, Keeps}
use Rattle.sqlite_rules.specs.Keys.{shares}
use Rattle.sqlite_rules.specs.Edit.{Edit, Applies, taken_by, is_referred}
use Rattle.sqlite_rules.specs.Action.{Work, Writes, works, work_for}
use Rattle.ee_store_tables.specs.Tables.{counter_schema, with_others, others_in, AreOthers, HasCounterTables, KeepsOthers}
use Rattle.ee_store_tables.proofs.WriteLemmas.{Same}

-- ---- without foreign keys

none_works : {A B : Type 0} (refs : Table → List A) (f : Table → A → Option B) (ts : List Table) → AllByRecursion (λ t. (14 < t.tree) × (refs t ≡ [])) ts
    → flat_map (λ t. filter_map (f t) (refs t)) ts ≡ []
none_works refs f [] all = refl
none_works refs f (t ∷ ts) all = rw (all.0.1) (none_works refs f ts all.1)

module _ (others : Schema) (them : AreOthers others) where
  no_works : (keys : Keys) (depth tree : ℕ) (olds news : List Row) → works (with_others others) keys depth tree olds news ≡ []
  no_works keys depth tree olds news = none_works (λ t. t.references) (work_for (with_others others) keys depth tree olds news) others.tables them.tables

  -- a write sets nothing off
  pub no_acts : (keys : Keys) (db : Trees) (edit : Edit) → works (with_others others) keys 0 edit.table.tree (taken_by db edit) edit.news ≡ []
  no_acts keys db edit = no_works keys 0 edit.table.tree (taken_by db edit) edit.news

  pub one_write : (keys : Keys) (db next : Trees) (edit : Edit) → Writes (with_others others) keys db edit (Ok next) → Applies (with_others others) keys db edit next
  one_write keys db next edit wrote = one_step (with_others others) keys db next edit (no_acts keys db edit) wrote

  none_to : (schema : Schema) (table : Table) (ts : List Table) → AllByRecursion (λ t. (14 < t.tree) × (t.references ≡ [])) ts → list_all (λ t. list_all (is_key_if_to schema table) t.references) ts ≡ true
  none_to schema table [] all = refl
  none_to schema table (t ∷ ts) all = rw (all.0.1) (none_to schema table ts all.1)

  -- no reference speaks against a write
  pub referred : (edit : Edit) → edit.table.references ≡ [] → is_referred (with_others others) Enforced edit ≡ true
  referred edit none = rw (none, none_to (with_others others) edit.table others.tables them.tables) (both _ _)
    where
      both : (a b : Bool) → ((not a || true) && (not b || true)) ≡ true
      both a b = rw (or-true (not a), or-true (not b)) refl

  each_refers : (among : Among) (schema : Schema) (db : Trees) (refs : List Reference) → refs ≡ [] → (rows : List Row) → AllByRecursion (λ row. list_all (λ ref. not (is_among among ref) || has_parent schema.tables db row ref) refs ≡ true) rows
  each_refers among schema db refs none [] = tt
  each_refers among schema db refs none (row ∷ rows) = (rw none refl, each_refers among schema db refs none rows)

  all_refer : (among : Among) (schema : Schema) (db : Trees) (ts : List Table) → AllByRecursion (λ t. (14 < t.tree) × (t.references ≡ [])) ts
      → AllByRecursion (λ t. AllByRecursion (λ row. list_all (λ ref. not (is_among among ref) || has_parent schema.tables db row ref) t.references ≡ true) (db t.tree)) ts
  all_refer among schema db [] all = tt
  all_refer among schema db (t ∷ ts) all = (each_refers among schema db t.references all.0.1 (db t.tree), all_refer among schema db ts all.1)

  -- no table refers to another
  pub no_references : (among : Among) (db : Trees) → Refers among (with_others others) db
  no_references among db =
      let each = λ (t : ℕ). each_refers among (with_others others) db [] refl (db t) in
      (each 0, (each 1, (each 2, (each 5, (each 7, (each 10, (each 12, (each 13, all_refer among (with_others others) db others.tables them.tables))))))))

  -- ---- indexes on other tables

  not_here : (tree : ℕ) → tree ≤ 14 → (P : Index → Type 0) (xs : List Index) → AllByRecursion (λ i. 14 < i.table) xs → AllByRecursion (λ i. i.table ≡ tree → P i) xs
  not_here tree low P [] all = tt
  not_here tree low P (i ∷ xs) all = ((λ e. let far = all.0 in absurd (omega (arith, low, far, e))), not_here tree low P xs all.1)

  -- nothing is asked of an entry of theirs
  pub unindexed : (tree : ℕ) → tree ≤ 14 → (P : Index → Type 0) → AllByRecursion (λ i. i.table ≡ tree → P i) others.indexes
  unindexed tree low P = not_here tree low P others.indexes them.indexes

  apart_from : (tree : ℕ) → tree ≤ 14 → (i : Index) → 14 < i.table → (i.table == tree) ≡ false
  apart_from tree low i far = ne_eqb i.table tree (λ e. absurd (omega (arith, low, far, e)))

  none_guards : (table : Table) → table.tree ≤ 14 → (test : Index → Bool) (xs : List Index) → AllByRecursion (λ i. 14 < i.table) xs → list_all (λ i. not (guards i table && test i)) xs ≡ true
  none_guards table low test [] all = refl
  none_guards table low test (i ∷ xs) all = rw (apart_from table.tree low i all.0, none_guards table low test xs all.1) (spared i.is_unique (test i))
    where
      spared : (a b : Bool) → (not ((a && false) && b) && true) ≡ true
      spared true b = refl
      spared false b = refl

  -- none of theirs makes a row of ours unique
  pub unguarded : (table : Table) → table.tree ≤ 14 → (db : Trees) (row : Row) → list_all (λ i. not (guards i table && clashes i.order i.columns (db table.tree) row)) others.indexes ≡ true
  unguarded table low db row = none_guards table low (λ i. clashes i.order i.columns (db table.tree) row) others.indexes them.indexes

  none_share : (target : Option (List ℕ)) (table : Table) → table.tree ≤ 14 → (new row : Row) (xs : List Index) → AllByRecursion (λ i. 14 < i.table) xs → list_any (shares target table new row) xs ≡ false
  none_share target table low new row [] all = refl
  none_share target table low new row (i ∷ xs) all = rw (apart_from table.tree low i all.0, none_share target table low new row xs all.1) (spared i.is_unique _ _)
    where
      spared : (a b c : Bool) → ((((a && false) && b) && c) || false) ≡ false
      spared true b c = refl
      spared false b c = refl

  -- and none of theirs makes two rows of ours conflict
  pub unshared : (target : Option (List ℕ)) (table : Table) → table.tree ≤ 14 → (new row : Row) → list_any (shares target table new row) others.indexes ≡ false
  unshared target table low new row = none_share target table low new row others.indexes them.indexes

  -- ---- rows of theirs

  their_unique : (db : Trees) (tree : ℕ) (next : List Row) → tree ≤ 14 → (ts : List Table) → AllByRecursion (λ t. (14 < t.tree) × (t.references ≡ [])) ts
      → AllByRecursion (λ t. AllByRecursion (λ row. passes Unique (with_others others) db t row ≡ true) (db t.tree)) ts
      → AllByRecursion (λ t. AllByRecursion (λ row. passes Unique (with_others others) (with_tree db tree next) t row ≡ true) (with_tree db tree next t.tree)) ts
  their_unique db tree next low [] all unique = tt
  their_unique db tree next low (t ∷ ts) all unique =
      let far = all.0.0 in
      let same : with_tree db tree next t.tree ≡ db t.tree = ap (λ b. if b then next else db t.tree) (ne_eqb t.tree tree (λ e. absurd (omega (arith, low, far, e)))) in (
        subst (λ rows. AllByRecursion (λ row. list_all (λ i. not (guards i t && clashes i.order i.columns rows row)) (with_others others).indexes ≡ true) rows) (sym same) unique.0,
        their_unique db tree next low ts all.1 unique.1,
      )

  -- their rows stay unique if a tree of ours is written
  pub still_unique : (db : Trees) (tree : ℕ) (next : List Row) → tree ≤ 14 → Keeps Unique (with_others others) db
      → AllByRecursion (λ t. AllByRecursion (λ row. passes Unique (with_others others) (with_tree db tree next) t row ≡ true) (with_tree db tree next t.tree)) others.tables
  still_unique db tree next low unique = their_unique db tree next low others.tables them.tables unique.1.1.1.1.1.1.1.1

their_rows : (old new : Trees) (tree : ℕ) → tree ≤ 14 → (ts : List Table) → AllByRecursion (λ t. (14 < t.tree) × (t.references ≡ [])) ts → AllByRecursion (λ t. t.tree ≢ tree → new t.tree ≡ old t.tree) ts
    → AllByRecursion (λ t. new t.tree ≡ old t.tree) ts
their_rows old new tree low [] all same = tt
their_rows old new tree low (t ∷ ts) all same = let far = all.0.0 in (same.0 (λ e. absurd (omega (arith, low, far, e))), their_rows old new tree low ts all.1 same.1)

-- what each write leaves: the counter's tables, and others' as they were
pub record Follows (old new : Database) : Type 0 where
  pub tables : HasCounterTables new.schema
  pub kept : KeepsOthers old new

-- the tables of a schema, of which each but one has the rows that it had
abbrev pub AllButOne : Schema → ℕ → Trees → Trees → Type 0
AllButOne others tree old new = AllByRecursion (λ t. t.tree ≢ tree → new t.tree ≡ old t.tree) (with_others others).tables

-- of ours
pub same_ours : (others : Schema) (tree : ℕ) (old new : Trees) → AllButOne others tree old new → Same tree old new
same_ours others tree old new kept = (kept.0, (kept.1.0, (kept.1.1.0, (kept.1.1.1.0, (kept.1.1.1.1.0, (kept.1.1.1.1.1.0, (kept.1.1.1.1.1.1.0, (kept.1.1.1.1.1.1.1.0, tt))))))))

all_itself : (tree : ℕ) (db : Trees) (ts : List Table) → AllByRecursion (λ t. t.tree ≢ tree → db t.tree ≡ db t.tree) ts
all_itself tree db [] = tt
all_itself tree db (t ∷ ts) = ((λ _. refl), all_itself tree db ts)

pub all_unaltered : (others : Schema) (tree : ℕ) (db : Trees) → AllButOne others tree db db
all_unaltered others tree db = all_itself tree db (with_others others).tables

pub follows : (old new : Database) (has : HasCounterTables old.schema) (tree : ℕ) → tree ≤ 14 → new.schema ≡ with_others (others_in old.schema) → AllButOne (others_in old.schema) tree old.trees new.trees → Follows old new
follows old new has tree low now same = record {
  tables = subst HasCounterTables (sym now) (record { ours = refl; others = has.others });
  kept = record { schema = ap others_in now; rows = their_rows old.trees new.trees tree low (others_in old.schema).tables has.others.tables same.1.1.1.1.1.1.1.1 };
}

-- ---- what is kept on and on

each_same : (db : Trees) (ts : List Table) → AllByRecursion (λ t. db t.tree ≡ db t.tree) ts
each_same db [] = tt
each_same db (t ∷ ts) = (refl, each_same db ts)

pub keeps_itself : (db : Database) → KeepsOthers db db
keeps_itself db = record { schema = refl; rows = each_same db.trees (others_in db.schema).tables }

each_then : (a b c : Trees) (ts : List Table) → AllByRecursion (λ t. b t.tree ≡ a t.tree) ts → AllByRecursion (λ t. c t.tree ≡ b t.tree) ts → AllByRecursion (λ t. c t.tree ≡ a t.tree) ts
each_then a b c [] one two = tt
each_then a b c (t ∷ ts) one two = (two.0 ∙ one.0, each_then a b c ts one.1 two.1)

pub keeps_on : (a b c : Database) → KeepsOthers a b → KeepsOthers b c → KeepsOthers a c
keeps_on a b c one two = record {
  schema = two.schema ∙ one.schema;
  rows = each_then a.trees b.trees c.trees (others_in a.schema).tables one.rows (subst (λ (s : Schema). AllByRecursion (λ t. c.trees t.tree ≡ b.trees t.tree) s.tables) one.schema two.rows);
}

-- the counter's tables alone
abbrev pub none_besides : Schema
none_besides = record { tables = []; indexes = []; views = [] }

pub ours_only : AreOthers none_besides
ours_only = record { tables = tt; indexes = tt; views = tt }

pub ours_alone : (schema : Schema) → schema ≡ counter_schema → HasCounterTables schema
ours_alone schema is = subst HasCounterTables (sym is) (record { ours = refl; others = ours_only })

-- with others' after them
pub ours_first : (schema others : Schema) → AreOthers others → schema ≡ with_others others → HasCounterTables schema
ours_first schema others them is = subst HasCounterTables (sym is) (record { ours = refl; others = them })

-- without tables of others nothing is to be kept
pub keeps_none : (old new : Database) → others_in old.schema ≡ none_besides → others_in new.schema ≡ none_besides → KeepsOthers old new
keeps_none old new was is = record { schema = is ∙ sym was; rows = subst (λ (s : Schema). AllByRecursion (λ t. new.trees t.tree ≡ old.trees t.tree) s.tables) (sym was) tt }
