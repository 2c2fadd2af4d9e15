use Rattle.std.proofs.Common.{◌≡◌, ◌+◌, None, Err, Ok, refl, sym, ap, subst, ◌∙◌}
use Rattle.std.specs.Prelude.{flat_map, map}
use Rattle.sqlite.specs.Held.{state}
use Rattle.sqlite.specs.State.{Executes, ExecutesInside}
use Rattle.sqlite.specs.Values.{bound}
use Rattle.sqlite_value.specs.Value.{owned}
use Rattle.ee_store_tables.specs.AsRows.{unpaid_columns}
use Rattle.ee_store_tables.specs.Rows.{HasRoom}
use Rattle.ee_store_tables.specs.Statements.{IsExcused}
use Rattle.ee_store_tables.proofs.Meaning.{add_ten_text}
use Rattle.ee_store_tables.proofs.CauseLemmas.{from_err, write_excused}
use Rattle.ee_store_tables.proofs.KeepLemmas.{inside_if_ok, writes_inside, fails_inside}
use Rattle.ee_store_tables.proofs.NewBondLemmas.{room_bonds}
use Rattle.ee_store_tables.proofs.TenLemmas.{adds_bonds, bonds_stay, writes_bonds, bound_bonds}
use Rattle.ee_store_tables.specs.Tables.{others_in}
use Rattle.ee_store_tables.proofs.bonds.add_ten.Goals as goal

pub returns-clause-added : goal.returns-clause-added
returns-clause-added g c clean rows sees =
    let old = state g.S.Store c.args.tx.now.conn.now in
    let new = state g.S.Store c.execute.new.self.conn.now in
    let bonds = c.args.bonds.now in
    let inside = inside_if_ok old.in_transaction c.execute.result c.in_ok-execute.field-0 c.in_ok-execute.was c.execute.ensures.ended in
    let it = c.in_ok-execute.ensures.runs clean inside in
    let given : bound c.as_slice.result.now ≡ flat_map unpaid_columns bonds = bound_bonds c.as_slice.result.now bonds (ap (map owned) c.as_slice.ensures.value ∙ c.in_ok-values.ensures.values) in
    let ran = subst (λ row. Executes add_ten_text row old new (Ok c.in_ok-execute.field-0)) given it.0 in
    let first = sees it.1.was_open in
    let after = adds_bonds bonds c.requires.ten old new c.in_ok-execute.field-0 first.0 ran in
    λ _. (after.0.tables, after.1 rows first.1)

pub returns-clause-writes_inside : goal.returns-clause-writes_inside
returns-clause-writes_inside g c =
    let old = state g.S.Store c.args.tx.now.conn.now in
    let new = state g.S.Store c.execute.new.self.conn.now in
    let bonds = c.args.bonds.now in
    let inside = inside_if_ok old.in_transaction c.execute.result c.in_ok-execute.field-0 c.in_ok-execute.was c.execute.ensures.ended in
    writes_inside old new (λ clean. (c.in_ok-execute.ensures.runs clean inside).1) (λ clean inside_old.
    let it = c.in_ok-execute.ensures.runs clean inside in
    let given : bound c.as_slice.result.now ≡ flat_map unpaid_columns bonds = bound_bonds c.as_slice.result.now bonds (ap (map owned) c.as_slice.ensures.value ∙ c.in_ok-values.ensures.values) in
    let ran = subst (λ row. Executes add_ten_text row old new (Ok c.in_ok-execute.field-0)) given it.0 in
    (adds_bonds bonds c.requires.ten old new c.in_ok-execute.field-0 (inside_old it.1.was_open).1 ran).0)
    c.execute.ensures.survives

pub returns-in_err-execute-clause-writes_inside : goal.returns-in_err-execute-clause-writes_inside
returns-in_err-execute-clause-writes_inside g c =
    fails_inside (state g.S.Store c.args.tx.now.conn.now) (state g.S.Store c.execute.new.self.conn.now) _ add_ten_text _ c.execute.result c.from_residual-in_err-execute.result c.from_residual-in_err-execute.ensures.1
    c.execute.ensures.runs (λ without. ap (state g.S.Store) (c.execute.ensures.ended without).1) c.execute.ensures.survives

pub returns-clause-room : goal.returns-clause-room
returns-clause-room g c clean inside_old rows sees n room =
    let old = state g.S.Store c.args.tx.now.conn.now in
    let new = state g.S.Store c.execute.new.self.conn.now in
    let bonds = c.args.bonds.now in
    let inside = inside_if_ok old.in_transaction c.execute.result c.in_ok-execute.field-0 c.in_ok-execute.was c.execute.ensures.ended in
    let it = c.in_ok-execute.ensures.runs clean inside in
    let given : bound c.as_slice.result.now ≡ flat_map unpaid_columns bonds = bound_bonds c.as_slice.result.now bonds (ap (map owned) c.as_slice.ensures.value ∙ c.in_ok-values.ensures.values) in
    let ran = subst (λ row. Executes add_ten_text row old new (Ok c.in_ok-execute.field-0)) given it.0 in
    let after = adds_bonds bonds c.requires.ten old new c.in_ok-execute.field-0 (inside_old it.1.was_open).1 ran in
    room_bonds old new n bonds after.3 after.4 after.2 it.1.was_open (subst (λ count. HasRoom (n + count) old) (sym c.requires.ten) room)

pub returns-in_err-execute-clause-cause : goal.returns-in_err-execute-clause-cause
returns-in_err-execute-clause-cause g c clean inside endless rows sees allowed =
    let old = state g.S.Store c.args.tx.now.conn.now in
    let new = state g.S.Store c.execute.new.self.conn.now in
    let bonds = c.args.bonds.now in
    let given : bound c.as_slice.result.now ≡ flat_map unpaid_columns bonds = bound_bonds c.as_slice.result.now bonds (ap (map owned) c.as_slice.ensures.value ∙ c.in_ok-values.ensures.values) in
    from_err c.from_residual-in_err-execute.result c.from_residual-in_err-execute.ensures.1 (λ failure same. subst (IsExcused old new) (sym same)
    (write_excused add_ten_text (flat_map unpaid_columns bonds) None _ (writes_bonds bonds c.requires.ten) old new 10 rows allowed.0 sees
    (λ them stands unique room. bonds_stay bonds c.requires.ten (others_in old.now.schema) them old.now.trees rows stands unique room.0 allowed.1) inside endless refl c.in_err-execute.field-0.0
    (λ within. subst (λ row. ExecutesInside 0 add_ten_text row old new (Err c.in_err-execute.field-0.0)) given (c.in_err-execute.ensures.runs clean within))))
