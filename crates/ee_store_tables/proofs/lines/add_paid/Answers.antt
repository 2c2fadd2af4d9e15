use Rattle.std.proofs.Common.{ℕ, None, refl, sym, ap, subst}
use Rattle.ee_store_tables.specs.Statements.{IsExcused}
use Rattle.ee_store_tables.proofs.Meaning.{add_paid_text}
use Rattle.ee_store_tables.proofs.CauseLemmas.{from_err, write_excused}
use Rattle.ee_store_tables.proofs.AskLemmas.{writes_paid}
use Rattle.ee_store_tables.proofs.PayLemmas.{add_paid_stays}
use Rattle.ee_store_tables.proofs.RoomLemmas.{room_paid}
use Rattle.sqlite.specs.Held.{state}
use Rattle.ee_store_tables.specs.AsRows.{row_of_line}
use Rattle.ee_store_tables.proofs.KeepLemmas.{inside_if_ok, writes_inside, fails_inside}
use Rattle.ee_store_tables.proofs.PaidLemmas.{given_paid, adds_paid}
use Rattle.ee_store_tables.specs.Tables.{others_in}
use Rattle.ee_store_tables.proofs.lines.add_paid.Goals as goal

pub returns-clause-added : goal.returns-clause-added
returns-clause-added g c clean rows sees =
    let old = state g.S.Store c.args.tx.now.conn.now in
    let new = state g.S.Store c.execute.new.self.conn.now in
    let inside = inside_if_ok old.in_transaction c.execute.result c.in_ok-execute.field-0 c.in_ok-execute.was c.execute.ensures.ended in
    let it = c.in_ok-execute.ensures.runs clean inside in
    let ran = rw (c.whole.ensures, c.whole-2.ensures, c.whole-3.ensures, c.whole-4.ensures, c.whole-5.ensures) at it.0 in
    let first = sees it.1.was_open in
    let after = adds_paid old new (c.args.ticket, c.args.place) (row_of_line c.args.line) c.in_ok-execute.field-0 first.0 ran in
    λ _. (after.0.tables, after.1 rows first.1)

pub returns-clause-writes_inside : goal.returns-clause-writes_inside
returns-clause-writes_inside g c =
    let old = state g.S.Store c.args.tx.now.conn.now in
    let new = state g.S.Store c.execute.new.self.conn.now in
    let inside = inside_if_ok old.in_transaction c.execute.result c.in_ok-execute.field-0 c.in_ok-execute.was c.execute.ensures.ended in
    writes_inside old new (λ clean. (c.in_ok-execute.ensures.runs clean inside).1) (λ clean inside_old.
    let it = c.in_ok-execute.ensures.runs clean inside in
    let ran = rw (c.whole.ensures, c.whole-2.ensures, c.whole-3.ensures, c.whole-4.ensures, c.whole-5.ensures) at it.0 in
    (adds_paid old new (c.args.ticket, c.args.place) (row_of_line c.args.line) c.in_ok-execute.field-0 (inside_old it.1.was_open).1 ran).0)
    c.execute.ensures.survives

pub returns-in_err-execute-clause-writes_inside : goal.returns-in_err-execute-clause-writes_inside
returns-in_err-execute-clause-writes_inside g c =
    fails_inside (state g.S.Store c.args.tx.now.conn.now) (state g.S.Store c.execute.new.self.conn.now) _ add_paid_text _ c.execute.result c.from_residual.result c.from_residual.ensures.1
    c.execute.ensures.runs (λ without. ap (state g.S.Store) (c.execute.ensures.ended without).1) c.execute.ensures.survives

pub returns-in_err-execute-clause-cause : goal.returns-in_err-execute-clause-cause
returns-in_err-execute-clause-cause g c clean inside endless rows sees allowed =
    let old = state g.S.Store c.args.tx.now.conn.now in
    let new = state g.S.Store c.execute.new.self.conn.now in
    let k : ℕ × ℕ = (c.args.ticket, c.args.place) in
    let x = row_of_line c.args.line in
    from_err c.from_residual.result c.from_residual.ensures.1 (λ failure same. subst (IsExcused old new) (sym same)
    (write_excused add_paid_text (given_paid k x) None _ (writes_paid k x) old new 1 rows allowed.0 sees
    (λ them stands unique room. add_paid_stays (others_in old.now.schema) them old.now.trees rows stands unique room.1 k x allowed.1.0 allowed.1.1) inside endless refl c.in_err-execute.field-0.0
    (rw (c.whole.ensures, c.whole-2.ensures, c.whole-3.ensures, c.whole-4.ensures, c.whole-5.ensures) at (c.in_err-execute.ensures.runs clean))))

pub returns-clause-room : goal.returns-clause-room
returns-clause-room g c clean inside_old rows sees n room =
    let old = state g.S.Store c.args.tx.now.conn.now in
    let new = state g.S.Store c.execute.new.self.conn.now in
    let inside = inside_if_ok old.in_transaction c.execute.result c.in_ok-execute.field-0 c.in_ok-execute.was c.execute.ensures.ended in
    let it = c.in_ok-execute.ensures.runs clean inside in
    let ran = rw (c.whole.ensures, c.whole-2.ensures, c.whole-3.ensures, c.whole-4.ensures, c.whole-5.ensures) at it.0 in
    let after = adds_paid old new (c.args.ticket, c.args.place) (row_of_line c.args.line) c.in_ok-execute.field-0 (inside_old it.1.was_open).1 ran in
    room_paid old new n _ refl after.3 after.4 after.2 it.1.was_open room
