use Rattle.std.proofs.Common.{◌∙◌, [], ◌∷◌, map, sym, subst}
use Rattle.sqlite.specs.declared.types.Value.TheVariants.{Int}
use Rattle.sqlite.specs.Effect.{Database}
use Rattle.sqlite.specs.Held.{state}
use Rattle.ee_store_tables.specs.Keyed.{HoldsPairs}
use Rattle.ee_store_tables.specs.Rows.{bond_columns}
use Rattle.ee_store_tables.proofs.Lemmas.Transactions.{clean_before}
use Rattle.ee_store_load.specs.declared.entries.Rowid.{Rowid}
use Rattle.ee_store_load.specs.Inner.Reading.{ShowsAll}
use Rattle.ee_store_schema.proofs.Lemmas.Forms.{tables_in, sees_tables}
use Rattle.ee_store_load.proofs.AskLemmas.{only_bonds, only_bond_rowids}
use Rattle.ee_store_load.proofs.QuestionLemmas.{by_key, by_pair, bond_terms, rowid_terms, asks_bonds, asks_bond_rowids}
use Rattle.ee_store_load.proofs.ReadLemmas.{still_form, loads_then, loads_made, loads_failed}
use Rattle.ee_store_schema.proofs.Lemmas.Faults.{handed_on}
use Rattle.ee_store_load.proofs.CanRead.{can_read_bonds, can_read_bond_rowids}
use Rattle.ee_store_load.proofs.EachTable.{holds_bonds, listed_bonds}
use Rattle.ee_store_schema.specs.Faults.{IsExcused}
use Rattle.ee_store_schema.proofs.Lemmas.Causes.{excused_then}
use Rattle.ee_store_load.proofs.NeverLemmas.{never_bonds, never_bond_rowids}
use Rattle.ee_store_load.proofs.tables.read_bonds.Goals as goal

pub read_table-requires : goal.read_table-requires
read_table-requires g c = only_bonds

pub test_table-requires : goal.test_table-requires
test_table-requires g c = only_bond_rowids

pub returns-in_err-test_table-clause-only_loads : goal.returns-in_err-test_table-clause-only_loads
returns-in_err-test_table-clause-only_loads g c =
    let at_0 = state g.S.Store c.args.conn.now in
    let at_1 = state g.S.Store c.read_table.new.conn in
    let at_2 = state g.S.Store c.test_table.new.conn in
    loads_failed at_0 at_2 c.in_err-test_table.field-0.0 c.from_residual-in_err-test_table.result c.from_residual-in_err-test_table.ensures.1
    (loads_then at_0 at_1 at_2 _ _ c.in_ok-rows.ensures.only_loads c.in_err-test_table.ensures.only_loads)

pub returns-clause-only_loads : goal.returns-clause-only_loads
returns-clause-only_loads g c =
    let at_0 = state g.S.Store c.args.conn.now in
    let at_1 = state g.S.Store c.read_table.new.conn in
    let at_2 = state g.S.Store c.test_table.new.conn in
    loads_made at_0 at_2 _ _ (loads_then at_0 at_1 at_2 _ _ c.in_ok-rows.ensures.only_loads c.in_ok-test_table.ensures.only_loads)

pub returns-clause-found : goal.returns-clause-found
returns-clause-found g c clean ours sound =
    let old = state g.S.Store c.args.conn.now in
    let middle = state g.S.Store c.read_table.new.conn in
    let new = state g.S.Store c.test_table.new.conn in
    let before = clean_before middle new c.test_table.ensures.only_loads.crash clean in
    let same = c.in_ok-rows.ensures.only_loads.same before in
    let ours_then = still_form ours.0 old middle same ours.1 in
    let shows = c.in_ok-rows.ensures.found before (tables_in ours.0 old.now.schema) 2 bond_terms by_pair (asks_bonds ours.0 old.now.schema) (sees_tables ours.0 old ours.1) in
    let numbered = c.in_ok-test_table.ensures.found clean in
    let numbers = numbered.1 (tables_in ours.0 middle.now.schema) 2 rowid_terms by_key (asks_bond_rowids ours.0 middle.now.schema) (sees_tables ours.0 middle ours_then) in
    let ids = numbered.0 in
    holds_bonds ours.0 old.now (sound shows.0) (ours.1 shows.0) c.in_ok-rows.rows.items ids shows.1 c.in_ok-rows.ensures.rises
    (subst (λ (d : Database). ShowsAll d.trees 2 rowid_terms (map (λ (it : Rowid). Int it.rowid ∷ []) ids)) same.0.now_is numbers.1) numbered.2

pub returns-clause-listed : goal.returns-clause-listed
returns-clause-listed g c = listed_bonds c.in_ok-rows.rows.items c.in_ok-rows.ensures.rises

pub returns-in_err-rows-clause-usable : goal.returns-in_err-rows-clause-usable
returns-in_err-rows-clause-usable g c clean =
    let old = state g.S.Store c.args.conn.now in
    handed_on _ c.from_residual.result c.in_err-rows.field-0.0 c.from_residual.ensures.1 (λ unusable ours is_open m are holds.
    c.in_err-rows.ensures.usable clean unusable (tables_in ours.0 old.now.schema) 2 bond_terms by_pair (asks_bonds ours.0 old.now.schema) (sees_tables ours.0 old ours.1) is_open (can_read_bonds old.now.trees m are holds))

pub returns-in_err-test_table-clause-usable : goal.returns-in_err-test_table-clause-usable
returns-in_err-test_table-clause-usable g c clean =
    let old = state g.S.Store c.args.conn.now in
    let middle = state g.S.Store c.read_table.new.conn in
    let new = state g.S.Store c.test_table.new.conn in
    handed_on _ c.from_residual-in_err-test_table.result c.in_err-test_table.field-0.0 c.from_residual-in_err-test_table.ensures.1 (λ unusable ours is_open m are holds.
    let before = clean_before middle new c.test_table.ensures.only_loads.crash clean in
    let same = c.in_ok-rows.ensures.only_loads.same before in
    let ours_then = still_form ours.0 old middle same ours.1 in
    c.in_err-test_table.ensures.usable clean unusable (tables_in ours.0 middle.now.schema) 2 rowid_terms by_key (asks_bond_rowids ours.0 middle.now.schema) (sees_tables ours.0 middle ours_then) same.0.is_open (can_read_bond_rowids middle.now.trees m (subst (λ (d : Database). HoldsPairs bond_columns (d.trees 2) m) (sym same.0.now_is) holds)))

pub returns-in_err-rows-clause-cause : goal.returns-in_err-rows-clause-cause
returns-in_err-rows-clause-cause g c clean ours limit =
    let old = state g.S.Store c.args.conn.now in
    let new = state g.S.Store c.read_table.new.conn in
    handed_on (IsExcused old new) c.from_residual.result c.in_err-rows.field-0.0 c.from_residual.ensures.1 (c.in_err-rows.ensures.cause (tables_in ours.0 old.now.schema) (never_bonds ours.0 old.now.schema) clean (sees_tables ours.0 old ours.1) limit)

pub returns-in_err-test_table-clause-cause : goal.returns-in_err-test_table-clause-cause
returns-in_err-test_table-clause-cause g c clean ours limit =
    let old = state g.S.Store c.args.conn.now in
    let middle = state g.S.Store c.read_table.new.conn in
    let new = state g.S.Store c.test_table.new.conn in
    let first = c.read_table.ensures.only_loads.crash in
    let ours_then = still_form ours.0 old middle (c.in_ok-rows.ensures.only_loads.same (clean_before middle new c.test_table.ensures.only_loads.crash clean)) ours.1 in
    handed_on (IsExcused old new) c.from_residual-in_err-test_table.result c.in_err-test_table.field-0.0 c.from_residual-in_err-test_table.ensures.1
    (excused_then old middle new first c.test_table.ensures.only_loads.crash clean _ (c.in_err-test_table.ensures.cause (tables_in ours.0 middle.now.schema) (never_bond_rowids ours.0 middle.now.schema) clean (sees_tables ours.0 middle ours_then) (first.limit ∙ limit)))
