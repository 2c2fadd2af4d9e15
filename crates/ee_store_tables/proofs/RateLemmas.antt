-- What an insertion into `rates` or `extensions` does.
use Rattle.std.proofs.Common.{◌≡◌, ◌≢◌, ◌≤◌, inl, inr, ℕ, ℤ, pos, List, [], ◌∷◌, true, false, Some, None, Ok, refl, sym, ap, subst, ◌∙◌, arith, nat_cmp}
use Rattle.std.specs.Prelude.{codes, slice_get}
use Rattle.std.specs.List.{AllByRecursion}
use Rattle.std.specs.FinMap.{FinMap, get, insert}
use Rattle.std.proofs.Math.Bool.{or-false}
use Rattle.std.proofs.lemmas.Bool.{ne_eqb}
use Rattle.sqlite.specs.declared.types.Value.TheVariants.{Null, Int}
use Rattle.sqlite.specs.Order.{Row}
use Rattle.sqlite.specs.Table.{Table}
use Rattle.sqlite.specs.Schema.{Schema}
use Rattle.sqlite.specs.Edit.{edit_of}
use Rattle.sqlite_rules.specs.Edit.{put_all, is_taken, are_fresh, with_rowid}
use Rattle.sqlite_rules.specs.Cast.{cast_row}
use Rattle.sqlite_rules.specs.Keys.{conflicts}
use Rattle.sqlite.specs.Rowids.TheVariants.{Chosen, Given}
use Rattle.sqlite_schema.specs.declared.schema.Keys.TheVariants.{Enforced}
use Rattle.sqlite_schema.specs.declared.command.Conflict.TheVariants.{Abort}
use Rattle.sqlite_schema.specs.Rules.{agree}
use Rattle.sqlite_value.specs.Keys.{plain}
use Rattle.sqlite.specs.Does.{Tally, Does, AtPlace, OnRows}
use Rattle.sqlite.specs.Rows.{Task, Written, TriesEach, Tries, count_of, nothing}
use Rattle.sqlite.specs.Tree.{put_row}
use Rattle.sqlite.specs.Effect.{Database, IsDatabase}
use Rattle.sqlite.specs.Listing.{understood}
use Rattle.sqlite.specs.State.{State, mode_of, Executes}
use Rattle.sqlite.proofs.Callers.{IsPlain, command_of, statement_of}
use Rattle.ee_store_tables.specs.Tables.{counter_schema, keyed_table, number_column, HasCounterTables, with_others, others_in, AreOthers}
use Rattle.ee_store_tables.specs.Keyed.{row_of, HoldsMap}
use Rattle.ee_store_tables.specs.Rows.{Rows, Holds, rate_columns, with_rate, with_extension, insert_new}
use Rattle.ee_store_tables.proofs.Meaning.{insert_rate, add_rate_text, add_rate_is, add_rate_plain, add_extension_text, add_extension_is, add_extension_plain}
use Rattle.ee_store_tables.proofs.ConflictLemmas.{tried, number_there, MeetsOrPuts}
use Rattle.ee_store_tables.proofs.KeyedLemmas.{no_key, adds_keyed}
use Rattle.ee_store_tables.proofs.WriteLemmas.{cast_int, cast_null, went, same_value, fresh_one, with_rates, with_extensions, Same, unaltered}
use Rattle.ee_store_tables.proofs.OtherLemmas.{one_write, Follows, AllButOne, follows, same_ours, unshared, all_unaltered}
use Rattle.ee_store_tables.proofs.OurLemmas.{runs_ours}

abbrev pub given_rate : ℕ → ℕ → Row
given_rate n x = Int (pos n) ∷ rate_columns x

-- a table of rates under their periods
abbrev pub rate_table : List ℕ → ℕ → Table
rate_table name tree = keyed_table name tree (number_column (codes "period") ∷ number_column (codes "rate") ∷ [])

-- it is the table at this place, and no index is one of it
pub record IsRateTable (place : ℕ) (name : List ℕ) (tree : ℕ) : Type 0 where
  pub low : tree ≤ 14
  pub there : (others : Schema) → slice_get (with_others others).tables place ≡ Some (rate_table name tree)
  pub unindexed : AllByRecursion (λ i. i.table ≢ tree) counter_schema.indexes

pub rates_are : IsRateTable 1 (codes "rates") 1
rates_are = record {
  low = omega arith;
  there = λ others. refl;
  unindexed = (λ e. omega (arith, e), (λ e. omega (arith, e), (λ e. omega (arith, e), (λ e. omega (arith, e), (λ e. omega (arith, e), (λ e. omega (arith, e), tt))))));
}

pub extensions_are : IsRateTable 6 (codes "extensions") 12
extensions_are = record {
  low = omega arith;
  there = λ others. refl;
  unindexed = (λ e. omega (arith, e), (λ e. omega (arith, e), (λ e. omega (arith, e), (λ e. omega (arith, e), (λ e. omega (arith, e), (λ e. omega (arith, e), tt))))));
}

module _ (place : ℕ) (name : List ℕ) (tree : ℕ) (known : IsRateTable place name tree) where
  -- a row meets another at its rowid alone
  pub rates_conflict : (others : Schema) → AreOthers others → (new r : Row) → conflicts (Some (0 ∷ [])) (with_others others).indexes (rate_table name tree) new r ≡ agree plain (0 ∷ []) r (0 ∷ []) new
  rates_conflict others them new r =
      rw (ne_eqb 2 tree known.unindexed.0, ne_eqb 7 tree known.unindexed.1.1.1.0, ne_eqb 13 tree known.unindexed.1.1.1.1.1.0, unshared others them (Some (0 ∷ [])) (rate_table name tree) known.low new r) (or-false _)

  module _ (old : State) (has : HasCounterTables old.now.schema) (n x : ℕ) (one : Written) where
    abbrev task : Task
    task = record { limit = old.step_limit; keys = Enforced; schema = (with_others (others_in old.now.schema)); table = rate_table name tree; params = given_rate n x }

    abbrev row : Row
    row = row_of rate_columns (pos n, (n, x))

    -- the rate goes in, or its period has one
    rate_written : MeetsOrPuts task (Some (0 ∷ [])) row old.now.trees one → (m : FinMap nat_cmp ℕ) → HoldsMap rate_columns (old.now.trees tree) m → HoldsMap rate_columns (one.trees tree) (insert_new m n x (get m n))
    rate_written (inl met) m held =
        let there = met.2.sound met.0 (inl refl) in
        let known = number_there rate_columns n (old.now.trees tree) m held (Null ∷ rate_columns x) refl there.0 there.1 (sym (rates_conflict (others_in old.now.schema) has.others row there.0) ∙ there.2) in
        subst (λ trees. HoldsMap rate_columns (trees tree) (insert_new m n x (get m n))) (sym met.3) (subst (λ o. HoldsMap rate_columns (old.now.trees tree) (insert_new m n x o)) (sym known.1) held)
    rate_written (inr puts) m held =
        let db = old.now.trees in
        let put = went puts in
        let edit = edit_of db (rate_table name tree) [] Given 0 (row ∷ []) in
        let applied = one_write (others_in old.now.schema) has.others _ db put.0 edit put.1 in
        let news : edit.news ≡ row ∷ [] = rw (cast_null, cast_int n, cast_int x) refl in
        let placed : put.0 tree ≡ put_row row (db tree) = applied.rows ∙ ap (put_all (db tree)) news in
        let fresh : is_taken (db tree) row ≡ false = fresh_one _ (subst (λ all. are_fresh (db tree) all ≡ true) news applied.fresh) in
        let trees : one.trees ≡ put.0 = ap (λ (w : Written). w.trees) (same_value put.2) in
        let none = no_key rate_columns n (db tree) m held x fresh in
        subst (λ trees. HoldsMap rate_columns (trees tree) (insert_new m n x (get m n))) (sym trees) (subst (λ o. HoldsMap rate_columns (put.0 tree) (insert_new m n x o)) (sym none)
        (subst (λ rs. HoldsMap rate_columns rs (insert m n x)) (sym placed) (adds_keyed rate_columns n (db tree) m held x fresh)))

    -- each other table stays as it is
    others_stay : MeetsOrPuts task (Some (0 ∷ [])) row old.now.trees one → AllButOne (others_in old.now.schema) tree old.now.trees one.trees
    others_stay (inl met) = subst (AllButOne (others_in old.now.schema) tree old.now.trees) (sym met.3) (all_unaltered (others_in old.now.schema) tree old.now.trees)
    others_stay (inr puts) =
        let put = went puts in
        subst (AllButOne (others_in old.now.schema) tree old.now.trees) (sym (ap (λ (w : Written). w.trees) (same_value put.2))) (one_write (others_in old.now.schema) has.others _ old.now.trees put.0 (edit_of old.now.trees (rate_table name tree) [] Given 0 (row ∷ [])) put.1).tables

  adds_rate_at : (sql : List ℕ) → ((others : Schema) → command_of (understood (with_others others) sql) ≡ insert_rate place) → ((others : Schema) → IsPlain (understood (with_others others) sql)) → (old new : State) (n x : ℕ) (count : ℕ) → HasCounterTables old.now.schema
      → Executes sql (given_rate n x) old new (Ok count)
      → Follows old.now new.now × ((m : FinMap nat_cmp ℕ) → HoldsMap rate_columns (old.now.trees tree) m → HoldsMap rate_columns (new.now.trees tree) (insert_new m n x (get m n)))
      × IsDatabase new.now × Same tree old.now.trees new.now.trees
  adds_rate_at sql is plain old new n x count has h =
      let params = given_rate n x in
      let db = old.now.trees in
      let row = row_of rate_columns (pos n, (n, x)) in
      let task_on : Table → Task = λ table. record { limit = old.step_limit; keys = Enforced; schema = (with_others (others_in old.now.schema)); table = table; params = params } in
      let task = task_on (rate_table name tree) in
      let rules = record { target = Some (0 ∷ []); update = None } ∷ [] in
      let command = insert_rate place in
      let w = runs_ours sql params old new has command is plain count h in
      let text = statement_of sql (understood (with_others (others_in old.now.schema)) sql) in
      let does = subst (λ s. Does old.step_limit (mode_of old) params (record old.now { schema = s }) text None command (Ok (w.tally, new.now))) has.ours w.changed in
      let done = went (subst (λ at. AtPlace (λ table. OnRows (task_on table) (mode_of old) None command db) at (Ok (w.tally, new.now))) (known.there (others_in old.now.schema)) does) in
      let now = ap (λ (p : Tally × Database). p.1) (same_value (went (went done.2).2).2) in
      let given_rows = went done.1 in
      let counter = went given_rows.2 in
      let all = went counter.2 in
      let counted = went all.2 in
      let trees : done.0.trees ≡ all.0.0.trees = ap (λ (it : Written). it.trees) (same_value counted.2) ∙ same_value counted.1 in
      let each = went (subst (λ sources. TriesEach task Abort rules sources (count_of counter.0) (nothing db) (Ok all.0)) given_rows.1.1 all.1) in
      let ended : all.0.0.trees ≡ each.0.trees = ap (λ (p : Written × ℤ). p.0.trees) (same_value each.2) in
      let new_is : with_rowid Chosen (db tree) (cast_row (rate_table name tree) (Int (pos n) ∷ Null ∷ Int (pos x) ∷ [])) ≡ row = rw (cast_null, cast_int n, cast_int x) refl in
      let one = subst (λ r. Tries task Abort rules r db (Ok each.0)) new_is each.1 in
      let after : new.now.trees ≡ each.0.trees = ap (λ (d : Database). d.trees) now ∙ trees ∙ ended in
      let met = tried task (Some (0 ∷ [])) row db each.0 one in
      let kept : AllButOne (others_in old.now.schema) tree db new.now.trees = subst (AllButOne (others_in old.now.schema) tree db) (sym after) (others_stay old has n x each.0 met) in (
        follows old.now new.now has tree known.low (ap (λ (d : Database). d.schema) now) kept,
        λ m held. subst (λ trees. HoldsMap rate_columns (trees tree) (insert_new m n x (get m n))) (sym after) (rate_written old has n x each.0 met m held),
        w.sound,
        same_ours (others_in old.now.schema) tree db new.now.trees kept,
      )

pub adds_rate : (old new : State) (n x : ℕ) (count : ℕ) → HasCounterTables old.now.schema → Executes add_rate_text (given_rate n x) old new (Ok count)
    → Follows old.now new.now × ((rows : Rows) → Holds old.now.trees rows → Holds new.now.trees (with_rate rows (n, x))) × IsDatabase new.now × Same 1 old.now.trees new.now.trees
adds_rate old new n x count has h =
    let it = adds_rate_at 1 (codes "rates") 1 rates_are add_rate_text add_rate_is add_rate_plain old new n x count has h in
    (it.0, λ rows stands. with_rates old.now.trees new.now.trees rows stands _ it.3 (it.1 rows.rates stands.rates), it.2, it.3)

pub adds_extension : (old new : State) (n x : ℕ) (count : ℕ) → HasCounterTables old.now.schema → Executes add_extension_text (given_rate n x) old new (Ok count)
    → Follows old.now new.now × ((rows : Rows) → Holds old.now.trees rows → Holds new.now.trees (with_extension rows (n, x))) × IsDatabase new.now × Same 12 old.now.trees new.now.trees
adds_extension old new n x count has h =
    let it = adds_rate_at 6 (codes "extensions") 12 extensions_are add_extension_text add_extension_is add_extension_plain old new n x count has h in
    (it.0, λ rows stands. with_extensions old.now.trees new.now.trees rows stands _ it.3 (it.1 rows.extensions stands.extensions), it.2, it.3)
