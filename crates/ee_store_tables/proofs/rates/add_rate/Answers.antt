use Rattle.std.proofs.Common.{None, refl, sym, ap, subst, arith}
use Rattle.ee_store_tables.specs.Statements.{IsExcused}
use Rattle.ee_store_tables.proofs.Meaning.{add_rate_text}
use Rattle.ee_store_tables.proofs.CauseLemmas.{from_err, write_excused}
use Rattle.ee_store_tables.proofs.AskLemmas.{writes_rate}
use Rattle.ee_store_tables.proofs.UpsertLemmas.{add_rate_stays}
use Rattle.ee_store_tables.proofs.RoomLemmas.{room_beside}
use Rattle.sqlite.specs.Held.{state}
use Rattle.ee_store_tables.proofs.KeepLemmas.{inside_if_ok, writes_inside, fails_inside}
use Rattle.ee_store_tables.proofs.RateLemmas.{given_rate, adds_rate}
use Rattle.ee_store_tables.specs.Tables.{others_in}
use Rattle.ee_store_tables.proofs.rates.add_rate.Goals as goal

pub returns-clause-added : goal.returns-clause-added
returns-clause-added g c clean rows sees =
    let old = state g.S.Store c.args.tx.now.conn.now in
    let new = state g.S.Store c.execute.new.self.conn.now in
    let inside = inside_if_ok old.in_transaction c.execute.result c.in_ok-execute.field-0 c.in_ok-execute.was c.execute.ensures.ended in
    let it = c.in_ok-execute.ensures.runs clean inside in
    let ran = rw (c.whole.ensures, c.whole-2.ensures) at it.0 in
    let first = sees it.1.was_open in
    let after = adds_rate old new c.args.rate.period c.args.rate.rate c.in_ok-execute.field-0 first.0 ran in
    λ _. (after.0.tables, after.1 rows first.1)

pub returns-clause-writes_inside : goal.returns-clause-writes_inside
returns-clause-writes_inside g c =
    let old = state g.S.Store c.args.tx.now.conn.now in
    let new = state g.S.Store c.execute.new.self.conn.now in
    let inside = inside_if_ok old.in_transaction c.execute.result c.in_ok-execute.field-0 c.in_ok-execute.was c.execute.ensures.ended in
    writes_inside old new (λ clean. (c.in_ok-execute.ensures.runs clean inside).1) (λ clean inside_old.
    let it = c.in_ok-execute.ensures.runs clean inside in
    let ran = rw (c.whole.ensures, c.whole-2.ensures) at it.0 in
    (adds_rate old new c.args.rate.period c.args.rate.rate c.in_ok-execute.field-0 (inside_old it.1.was_open).1 ran).0)
    c.execute.ensures.survives

pub returns-in_err-execute-clause-writes_inside : goal.returns-in_err-execute-clause-writes_inside
returns-in_err-execute-clause-writes_inside g c =
    fails_inside (state g.S.Store c.args.tx.now.conn.now) (state g.S.Store c.execute.new.self.conn.now) _ add_rate_text _ c.execute.result c.from_residual.result c.from_residual.ensures.1
    c.execute.ensures.runs (λ without. ap (state g.S.Store) (c.execute.ensures.ended without).1) c.execute.ensures.survives

pub returns-in_err-execute-clause-cause : goal.returns-in_err-execute-clause-cause
returns-in_err-execute-clause-cause g c clean inside endless rows sees allowed =
    let old = state g.S.Store c.args.tx.now.conn.now in
    let new = state g.S.Store c.execute.new.self.conn.now in
    let n = c.args.rate.period in
    let x = c.args.rate.rate in
    from_err c.from_residual.result c.from_residual.ensures.1 (λ failure same. subst (IsExcused old new) (sym same)
    (write_excused add_rate_text (given_rate n x) None _ (writes_rate n x) old new 0 rows allowed sees
    (λ them stands unique _. add_rate_stays (others_in old.now.schema) them old.now.trees rows stands unique n c.requires.0 x) inside endless refl c.in_err-execute.field-0.0
    (rw (c.whole.ensures, c.whole-2.ensures) at (c.in_err-execute.ensures.runs clean))))

pub returns-clause-room : goal.returns-clause-room
returns-clause-room g c clean inside_old rows sees n room =
    let old = state g.S.Store c.args.tx.now.conn.now in
    let new = state g.S.Store c.execute.new.self.conn.now in
    let inside = inside_if_ok old.in_transaction c.execute.result c.in_ok-execute.field-0 c.in_ok-execute.was c.execute.ensures.ended in
    let it = c.in_ok-execute.ensures.runs clean inside in
    let ran = rw (c.whole.ensures, c.whole-2.ensures) at it.0 in
    let after = adds_rate old new c.args.rate.period c.args.rate.rate c.in_ok-execute.field-0 (inside_old it.1.was_open).1 ran in
    room_beside old new 1 n (λ e. omega (arith, e)) (λ e. omega (arith, e)) (λ e. omega (arith, e)) after.3 after.2 it.1.was_open room
