use Rattle.std.proofs.Common.{ℕ, ◌+◌, arith, Option, Some, subst}
use Rattle.sqlite.specs.Held.{state}
use Rattle.ee_store_tables.specs.Rows.{Sees, with_day}
use Rattle.ee_store_tables.proofs.Lemmas.Causes.{room_less}
use Rattle.ee_store_books.proofs.Lemmas.Lookups.{statement_failed}
use Rattle.ee_store_delivery.proofs.writing.write_day.Goals as goal

pub returns-clause-written : goal.returns-clause-written
returns-clause-written g c clean rows sees =
    subst (λ (d : Option ℕ × Option ℕ). Sees (state g.S.Store c.set_day.new.tx.conn.now) (with_day rows d.0 d.1))
    (λ i. (Some (c.count.ensures.value i), c.in_ok-last.ensures.value.0 i))
    (c.in_ok-set_day.ensures.set clean rows sees)

pub returns-clause-room : goal.returns-clause-room
returns-clause-room g c clean inside rows sees n room = c.in_ok-set_day.ensures.room clean inside rows sees n (room_less (state g.S.Store c.args.tx.now.conn.now) n (0 + n) (omega arith) room)

pub returns-in_err-last-clause-cause : goal.returns-in_err-last-clause-cause
returns-in_err-last-clause-cause g c clean inside endless rows sees can = cc (c.in_err-last.ensures.fits can.0)

pub returns-in_err-set_day-clause-cause : goal.returns-in_err-set_day-clause-cause
returns-in_err-set_day-clause-cause g c clean inside endless rows sees can =
    statement_failed (state g.S.Store c.args.tx.now.conn.now) (state g.S.Store c.set_day.new.tx.conn.now) c.from_residual-in_err-set_day.result c.in_err-set_day.field-0.0 c.from_residual-in_err-set_day.ensures.1
    (c.in_err-set_day.ensures.cause clean inside endless rows sees can.1)
