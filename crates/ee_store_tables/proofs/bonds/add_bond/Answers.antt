use Rattle.ee_store_tables.specs.Statements.{IsExcused}
use Rattle.ee_store_tables.proofs.CauseLemmas.{from_err, write_excused}
use Rattle.ee_store_tables.proofs.AskLemmas.{writes_bond}
use Rattle.ee_store_tables.proofs.UpsertLemmas.{add_bond_stays}
use Rattle.ee_store_tables.proofs.RoomLemmas.{room_bond}
use Rattle.std.proofs.Common.{◌≡◌, None, Err, refl, sym, Ok, List, [], ◌∷◌, ap, subst, ◌∙◌}
use Rattle.sqlite.specs.declared.types.Value.{Value}
use Rattle.sqlite_value.specs.Value.{owned}
use Rattle.sqlite.specs.Values.{bound_value}
use Rattle.sqlite.specs.Held.{state}
use Rattle.sqlite.specs.State.{Executes, ExecutesInside}
use Rattle.ee_store_tables.specs.AsRows.{key_of_unpaid, row_of_unpaid}
use Rattle.ee_store_tables.specs.Rows.{optional}
use Rattle.ee_store_tables.proofs.Meaning.{add_bond_text}
use Rattle.ee_store_tables.proofs.KeepLemmas.{inside_if_ok, writes_inside, fails_inside}
use Rattle.ee_store_tables.proofs.WriteLemmas.{bound_optional}
use Rattle.ee_store_tables.proofs.RegisterLemmas.{given_bond, adds_bond}
use Rattle.ee_store_tables.specs.Tables.{others_in}
use Rattle.ee_store_tables.proofs.bonds.add_bond.Goals as goal

pub returns-clause-added : goal.returns-clause-added
returns-clause-added g c clean rows sees =
    let old = state g.S.Store c.args.tx.now.conn.now in
    let new = state g.S.Store c.execute.new.self.conn.now in
    let inside = inside_if_ok old.in_transaction c.execute.result c.in_ok-execute.field-0 c.in_ok-execute.was c.execute.ensures.ended in
    let it = c.in_ok-execute.ensures.runs clean inside in
    let part-5 : bound_value (owned c.optional.result) ≡ optional c.args.bond.coowner = ap bound_value c.optional.ensures ∙ bound_optional c.args.bond.coowner in
    let params : List Value = bound_value (owned c.whole.result) ∷ bound_value (owned c.whole-2.result) ∷ bound_value (owned c.whole-3.result) ∷ bound_value (owned c.whole-4.result) ∷ bound_value (owned c.whole-5.result) ∷ bound_value (owned c.optional.result) ∷ [] in
    let given : params ≡ given_bond (key_of_unpaid c.args.bond) (row_of_unpaid c.args.bond) = λ i. bound_value (c.whole.ensures i) ∷ bound_value (c.whole-2.ensures i) ∷ bound_value (c.whole-3.ensures i) ∷ bound_value (c.whole-4.ensures i) ∷ bound_value (c.whole-5.ensures i) ∷ part-5 i ∷ [] in
    let ran = subst (λ row. Executes add_bond_text row old new (Ok c.in_ok-execute.field-0)) given it.0 in
    let first = sees it.1.was_open in
    let after = adds_bond old new (key_of_unpaid c.args.bond) (row_of_unpaid c.args.bond) c.in_ok-execute.field-0 first.0 ran in
    λ _. (after.0.tables, after.1 rows first.1)

pub returns-clause-writes_inside : goal.returns-clause-writes_inside
returns-clause-writes_inside g c =
    let old = state g.S.Store c.args.tx.now.conn.now in
    let new = state g.S.Store c.execute.new.self.conn.now in
    let inside = inside_if_ok old.in_transaction c.execute.result c.in_ok-execute.field-0 c.in_ok-execute.was c.execute.ensures.ended in
    writes_inside old new (λ clean. (c.in_ok-execute.ensures.runs clean inside).1) (λ clean inside_old.
    let it = c.in_ok-execute.ensures.runs clean inside in
    let part-5 : bound_value (owned c.optional.result) ≡ optional c.args.bond.coowner = ap bound_value c.optional.ensures ∙ bound_optional c.args.bond.coowner in
    let params : List Value = bound_value (owned c.whole.result) ∷ bound_value (owned c.whole-2.result) ∷ bound_value (owned c.whole-3.result) ∷ bound_value (owned c.whole-4.result) ∷ bound_value (owned c.whole-5.result) ∷ bound_value (owned c.optional.result) ∷ [] in
    let given : params ≡ given_bond (key_of_unpaid c.args.bond) (row_of_unpaid c.args.bond) = λ i. bound_value (c.whole.ensures i) ∷ bound_value (c.whole-2.ensures i) ∷ bound_value (c.whole-3.ensures i) ∷ bound_value (c.whole-4.ensures i) ∷ bound_value (c.whole-5.ensures i) ∷ part-5 i ∷ [] in
    let ran = subst (λ row. Executes add_bond_text row old new (Ok c.in_ok-execute.field-0)) given it.0 in
    (adds_bond old new (key_of_unpaid c.args.bond) (row_of_unpaid c.args.bond) c.in_ok-execute.field-0 (inside_old it.1.was_open).1 ran).0)
    c.execute.ensures.survives

pub returns-in_err-execute-clause-writes_inside : goal.returns-in_err-execute-clause-writes_inside
returns-in_err-execute-clause-writes_inside g c =
    fails_inside (state g.S.Store c.args.tx.now.conn.now) (state g.S.Store c.execute.new.self.conn.now) _ add_bond_text _ c.execute.result c.from_residual.result c.from_residual.ensures.1
    c.execute.ensures.runs (λ without. ap (state g.S.Store) (c.execute.ensures.ended without).1) c.execute.ensures.survives

pub returns-clause-room : goal.returns-clause-room
returns-clause-room g c clean inside_old rows sees n room =
    let old = state g.S.Store c.args.tx.now.conn.now in
    let new = state g.S.Store c.execute.new.self.conn.now in
    let inside = inside_if_ok old.in_transaction c.execute.result c.in_ok-execute.field-0 c.in_ok-execute.was c.execute.ensures.ended in
    let it = c.in_ok-execute.ensures.runs clean inside in
    let part-5 : bound_value (owned c.optional.result) ≡ optional c.args.bond.coowner = ap bound_value c.optional.ensures ∙ bound_optional c.args.bond.coowner in
    let params : List Value = bound_value (owned c.whole.result) ∷ bound_value (owned c.whole-2.result) ∷ bound_value (owned c.whole-3.result) ∷ bound_value (owned c.whole-4.result) ∷ bound_value (owned c.whole-5.result) ∷ bound_value (owned c.optional.result) ∷ [] in
    let given : params ≡ given_bond (key_of_unpaid c.args.bond) (row_of_unpaid c.args.bond) = λ i. bound_value (c.whole.ensures i) ∷ bound_value (c.whole-2.ensures i) ∷ bound_value (c.whole-3.ensures i) ∷ bound_value (c.whole-4.ensures i) ∷ bound_value (c.whole-5.ensures i) ∷ part-5 i ∷ [] in
    let ran = subst (λ row. Executes add_bond_text row old new (Ok c.in_ok-execute.field-0)) given it.0 in
    let after = adds_bond old new (key_of_unpaid c.args.bond) (row_of_unpaid c.args.bond) c.in_ok-execute.field-0 (inside_old it.1.was_open).1 ran in
    room_bond old new n _ refl after.3 after.4 after.2 it.1.was_open room

pub returns-in_err-execute-clause-cause : goal.returns-in_err-execute-clause-cause
returns-in_err-execute-clause-cause g c clean inside endless rows sees allowed =
    let old = state g.S.Store c.args.tx.now.conn.now in
    let new = state g.S.Store c.execute.new.self.conn.now in
    let k = key_of_unpaid c.args.bond in
    let x = row_of_unpaid c.args.bond in
    let part-5 : bound_value (owned c.optional.result) ≡ optional c.args.bond.coowner = ap bound_value c.optional.ensures ∙ bound_optional c.args.bond.coowner in
    let params : List Value = bound_value (owned c.whole.result) ∷ bound_value (owned c.whole-2.result) ∷ bound_value (owned c.whole-3.result) ∷ bound_value (owned c.whole-4.result) ∷ bound_value (owned c.whole-5.result) ∷ bound_value (owned c.optional.result) ∷ [] in
    let given : params ≡ given_bond (key_of_unpaid c.args.bond) (row_of_unpaid c.args.bond) = λ i. bound_value (c.whole.ensures i) ∷ bound_value (c.whole-2.ensures i) ∷ bound_value (c.whole-3.ensures i) ∷ bound_value (c.whole-4.ensures i) ∷ bound_value (c.whole-5.ensures i) ∷ part-5 i ∷ [] in
    from_err c.from_residual.result c.from_residual.ensures.1 (λ failure same. subst (IsExcused old new) (sym same)
    (write_excused add_bond_text (given_bond k x) None _ (writes_bond k x) old new 1 rows allowed sees
    (λ them stands unique room. add_bond_stays (others_in old.now.schema) them old.now.trees rows stands unique room.0 k x) inside endless refl c.in_err-execute.field-0.0
    (λ within. subst (λ row. ExecutesInside 0 add_bond_text row old new (Err c.in_err-execute.field-0.0)) given (c.in_err-execute.ensures.runs clean within))))
