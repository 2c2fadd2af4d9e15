use Rattle.std.proofs.Common.{ℕ, ◌+◌, arith, None, Some, ap, ◌∙◌, subst}
use Rattle.std.specs.FinMap.{get}
use Rattle.sqlite.specs.Held.{state}
use Rattle.ee_store_tables.specs.Rows.{Sees, BatchRow, with_day, with_batch}
use Rattle.ee_store_tables.specs.AsRows.{row_of_batch}
use Rattle.ee_store_tables.proofs.Lemmas.Transactions.{clean_before}
use Rattle.ee_store_tables.proofs.Lemmas.Causes.{room_less}
use Rattle.ee_store_books.proofs.Lemmas.Lookups.{statement_failed, leaves_then}
use Rattle.ee_store_delivery.proofs.InOrder.{commits_then}
use Rattle.ee_store_delivery.proofs.WriteCauses.{later_failed}
use Rattle.ee_store_delivery.proofs.writing.write_batch.Goals as goal

pub returns-clause-written : goal.returns-clause-written
returns-clause-written g c clean rows sees =
    let middle = state g.S.Store c.add_batch.new.tx.conn.now in
    let new = state g.S.Store c.set_day.new.tx.conn.now in
    let before = clean_before middle new c.set_day.ensures.writes_inside.crash clean in
    subst (λ (d : ℕ × BatchRow). Sees new (with_day (with_batch rows d.0 d.1) None (Some d.0)))
    (λ i. (c.count-day.ensures.value i, c.in_ok-row.ensures.row.0 i))
    (c.in_ok-set_day.ensures.set clean (with_batch rows c.count-day.result (row_of_batch c.in_ok-row.row)) (c.in_ok-add_batch.ensures.added before rows sees))

pub returns-clause-room : goal.returns-clause-room
returns-clause-room g c clean inside rows sees n room =
    let middle = state g.S.Store c.add_batch.new.tx.conn.now in
    let new = state g.S.Store c.set_day.new.tx.conn.now in
    let before = clean_before middle new c.set_day.ensures.writes_inside.crash clean in
    c.in_ok-set_day.ensures.room clean (c.in_ok-add_batch.ensures.writes_inside.inside before inside)
    (with_batch rows c.count-day.result (row_of_batch c.in_ok-row.row)) (c.in_ok-add_batch.ensures.added before rows sees) n
    (c.in_ok-add_batch.ensures.room before inside rows sees n (room_less (state g.S.Store c.args.tx.now.conn.now) n (0 + n) (omega arith) room))

pub returns-in_err-row-clause-cause : goal.returns-in_err-row-clause-cause
returns-in_err-row-clause-cause g c clean inside endless rows sees can = cc (c.in_err-row.ensures.fits can.0.tickets can.0.bonds can.0.total)

pub returns-in_err-add_batch-clause-cause : goal.returns-in_err-add_batch-clause-cause
returns-in_err-add_batch-clause-cause g c clean inside endless rows sees can =
    statement_failed (state g.S.Store c.args.tx.now.conn.now) (state g.S.Store c.add_batch.new.tx.conn.now) c.from_residual-in_err-add_batch.result c.in_err-add_batch.field-0.0 c.from_residual-in_err-add_batch.ensures.1
    (c.in_err-add_batch.ensures.cause clean inside endless rows sees (can.1, ap (get rows.batches) c.count-day.ensures.value ∙ can.0.new))

pub returns-in_err-set_day-clause-cause : goal.returns-in_err-set_day-clause-cause
returns-in_err-set_day-clause-cause g c clean inside endless rows sees can =
    let old = state g.S.Store c.args.tx.now.conn.now in
    let middle = state g.S.Store c.add_batch.new.tx.conn.now in
    let new = state g.S.Store c.set_day.new.tx.conn.now in
    let before = clean_before middle new c.set_day.ensures.writes_inside.crash clean in
    later_failed old middle new clean c.add_batch.ensures.writes_inside.crash c.set_day.ensures.writes_inside.crash c.from_residual-in_err-set_day.result c.in_err-set_day.field-0.0 c.from_residual-in_err-set_day.ensures.1
    (c.in_err-set_day.ensures.cause clean (c.in_ok-add_batch.ensures.writes_inside.inside before inside) (c.add_batch.ensures.writes_inside.crash.limit ∙ endless)
    (with_batch rows c.count-day.result (row_of_batch c.in_ok-row.row)) (c.in_ok-add_batch.ensures.added before rows sees) (c.in_ok-add_batch.ensures.room before inside rows sees 0 can.1))

pub returns-clause-writes_inside : goal.returns-clause-writes_inside
returns-clause-writes_inside g c =
    let old = state g.S.Store c.args.tx.now.conn.now in
    let middle = state g.S.Store c.add_batch.new.tx.conn.now in
    let new = state g.S.Store c.set_day.new.tx.conn.now in
    let first = c.in_ok-add_batch.ensures.writes_inside in
    let second = c.in_ok-set_day.ensures.writes_inside in
    record {
      still_open = second.still_open;
      inside = λ clean inside. second.inside clean (first.inside (clean_before middle new second.crash clean) inside);
      commit = commits_then old middle new first.inside second.crash first.commit second.commit;
      crash = leaves_then old middle new first.crash second.crash;
    }
