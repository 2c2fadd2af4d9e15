use Rattle.std.proofs.Common.{◌≡◌, ◌≢◌, ◌∙◌, [], ◌∷◌, map, T, refl, sym, subst}
use Rattle.std.specs.FinMap.{entries, entries_sorted, is_sorted}
use Rattle.sqlite.specs.declared.types.Value.TheVariants.{Int}
use Rattle.sqlite.specs.Effect.{Database}
use Rattle.sqlite.specs.Held.{state}
use Rattle.ee_store_tables.specs.Keyed.{pair_cmp, HoldsPairs}
use Rattle.ee_store_tables.specs.Rows.{reply_columns}
use Rattle.ee_store_tables.proofs.Lemmas.Transactions.{clean_before}
use Rattle.ee_store_load.specs.declared.entries.Rowid.{Rowid}
use Rattle.ee_store_load.specs.Inner.Reading.{ShowsAll}
use Rattle.ee_store_load.specs.Shown.{answer_map}
use Rattle.ee_store_schema.proofs.Lemmas.Forms.{tables_in, sees_tables}
use Rattle.ee_store_schema.specs.declared.forms.Form.TheVariants.{Current}
use Rattle.ee_store_load.proofs.AskLemmas.{only_answers, only_answer_rowids}
use Rattle.ee_store_load.proofs.QuestionLemmas.{by_key, by_pair, answer_terms, rowid_terms, asks_answers, asks_answer_rowids}
use Rattle.ee_store_load.proofs.ReadLemmas.{still_form, loads_then, loads_made, loads_failed}
use Rattle.ee_store_schema.specs.Migrating.{answer_entry}
use Rattle.ee_store_schema.proofs.Lemmas.Faults.{handed_on}
use Rattle.ee_store_load.proofs.CanRead.{can_read_answers, can_read_answer_rowids}
use Rattle.ee_store_load.proofs.EachTable.{holds_answers, listed_answers}
use Rattle.ee_store_schema.specs.Faults.{IsExcused}
use Rattle.ee_store_schema.proofs.Lemmas.Causes.{excused_then}
use Rattle.ee_store_load.proofs.NeverLemmas.{never_answers, never_answer_rowids}
use Rattle.ee_store_load.proofs.tables.test_current_answers.Goals as goal

pub test_table-requires : goal.test_table-requires
test_table-requires g c = only_answers

pub test_table-requires-2 : goal.test_table-requires-2
test_table-requires-2 g c = only_answer_rowids

pub returns-in_err-test_table-clause-only_loads : goal.returns-in_err-test_table-clause-only_loads
returns-in_err-test_table-clause-only_loads g c =
    let at_0 = state g.S.Store c.args.conn.now in
    let at_1 = state g.S.Store c.test_table.new.conn in
    let at_2 = state g.S.Store c.test_table-2.new.conn in
    loads_failed at_0 at_2 c.in_err-test_table.field-0.0 c.from_residual-in_err-test_table.result c.from_residual-in_err-test_table.ensures.1
    (loads_then at_0 at_1 at_2 _ _ c.in_ok-pass.ensures.only_loads c.in_err-test_table.ensures.only_loads)

pub returns-clause-only_loads : goal.returns-clause-only_loads
returns-clause-only_loads g c =
    let at_0 = state g.S.Store c.args.conn.now in
    let at_1 = state g.S.Store c.test_table.new.conn in
    let at_2 = state g.S.Store c.test_table-2.new.conn in
    loads_made at_0 at_2 _ _ (loads_then at_0 at_1 at_2 _ _ c.in_ok-pass.ensures.only_loads c.in_ok-test_table.ensures.only_loads)

pub returns-clause-found : goal.returns-clause-found
returns-clause-found g c clean ours sound =
    let old = state g.S.Store c.args.conn.now in
    let middle = state g.S.Store c.test_table.new.conn in
    let new = state g.S.Store c.test_table-2.new.conn in
    let before = clean_before middle new c.test_table-2.ensures.only_loads.crash clean in
    let same = c.in_ok-pass.ensures.only_loads.same before in
    let ours_then = still_form Current old middle same ours in
    let read = c.in_ok-pass.ensures.found before in
    let shows = read.1 (tables_in Current old.now.schema) 13 answer_terms by_pair (asks_answers old.now.schema) (sees_tables Current old ours) in
    let numbered = c.in_ok-test_table.ensures.found clean in
    let numbers = numbered.1 (tables_in Current middle.now.schema) 13 rowid_terms by_key (asks_answer_rowids middle.now.schema) (sees_tables Current middle ours_then) in
    let ids = numbered.0 in
    let none : Current ≢ Current → _ ≡ read.0 = λ earlier. absurd (earlier refl) in
    record {
      kept = read.0;
      tested = record {
        in_order = subst (λ es. T (is_sorted pair_cmp es)) (listed_answers read.0 read.2) (entries_sorted (answer_map read.0));
        pass = read.3;
        earlier = none;
      };
      held = holds_answers old.now (sound shows.0) (ours shows.0) read.0 ids shows.1 read.2
          (subst (λ (d : Database). ShowsAll d.trees 13 rowid_terms (map (λ (it : Rowid). Int it.rowid ∷ []) ids)) same.0.now_is numbers.1) numbered.2;
    }

pub returns-in_err-pass-clause-usable : goal.returns-in_err-pass-clause-usable
returns-in_err-pass-clause-usable g c clean =
    let old = state g.S.Store c.args.conn.now in
    handed_on _ c.from_residual.result c.in_err-pass.field-0.0 c.from_residual.ensures.1 (λ unusable ours is_open m written holds.
    c.in_err-pass.ensures.usable clean unusable (tables_in Current old.now.schema) 13 answer_terms by_pair (asks_answers old.now.schema) (sees_tables Current old ours) is_open (can_read_answers old.now.trees m written holds))

pub returns-in_err-test_table-clause-usable : goal.returns-in_err-test_table-clause-usable
returns-in_err-test_table-clause-usable g c clean =
    let old = state g.S.Store c.args.conn.now in
    let middle = state g.S.Store c.test_table.new.conn in
    let new = state g.S.Store c.test_table-2.new.conn in
    handed_on _ c.from_residual-in_err-test_table.result c.in_err-test_table.field-0.0 c.from_residual-in_err-test_table.ensures.1 (λ unusable ours is_open m written holds.
    let before = clean_before middle new c.test_table-2.ensures.only_loads.crash clean in
    let same = c.in_ok-pass.ensures.only_loads.same before in
    let ours_then = still_form Current old middle same ours in
    c.in_err-test_table.ensures.usable clean unusable (tables_in Current middle.now.schema) 13 rowid_terms by_key (asks_answer_rowids middle.now.schema) (sees_tables Current middle ours_then) same.0.is_open (can_read_answer_rowids middle.now.trees m (subst (λ (d : Database). HoldsPairs reply_columns (d.trees 13) m) (sym same.0.now_is) holds)))

pub returns-in_err-pass-clause-cause : goal.returns-in_err-pass-clause-cause
returns-in_err-pass-clause-cause g c clean ours limit =
    let old = state g.S.Store c.args.conn.now in
    let new = state g.S.Store c.test_table.new.conn in
    handed_on (IsExcused old new) c.from_residual.result c.in_err-pass.field-0.0 c.from_residual.ensures.1 (c.in_err-pass.ensures.cause (tables_in Current old.now.schema) (never_answers old.now.schema) clean (sees_tables Current old ours) limit)

pub returns-in_err-test_table-clause-cause : goal.returns-in_err-test_table-clause-cause
returns-in_err-test_table-clause-cause g c clean ours limit =
    let old = state g.S.Store c.args.conn.now in
    let middle = state g.S.Store c.test_table.new.conn in
    let new = state g.S.Store c.test_table-2.new.conn in
    let first = c.test_table.ensures.only_loads.crash in
    let ours_then = still_form Current old middle (c.in_ok-pass.ensures.only_loads.same (clean_before middle new c.test_table-2.ensures.only_loads.crash clean)) ours in
    handed_on (IsExcused old new) c.from_residual-in_err-test_table.result c.in_err-test_table.field-0.0 c.from_residual-in_err-test_table.ensures.1
    (excused_then old middle new first c.test_table-2.ensures.only_loads.crash clean _ (c.in_err-test_table.ensures.cause (tables_in Current middle.now.schema) (never_answer_rowids middle.now.schema) clean (sees_tables Current middle ours_then) (first.limit ∙ limit)))

pub returns-clause-listed : goal.returns-clause-listed
returns-clause-listed g c = subst (λ all. entries (answer_map all) ≡ map answer_entry all) (sym c.new.ensures.items) (listed_answers [] refl)
