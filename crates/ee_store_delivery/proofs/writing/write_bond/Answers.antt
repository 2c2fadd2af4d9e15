use Rattle.std.proofs.Common.{◌+◌, arith, subst}
use Rattle.sqlite.specs.Held.{state}
use Rattle.ee_store_tables.specs.Rows.{Sees, with_bond}
use Rattle.ee_store_tables.proofs.Lemmas.Causes.{room_less}
use Rattle.ee_store_books.proofs.Lemmas.Lookups.{statement_failed}
use Rattle.ee_store_delivery.proofs.writing.write_bond.Goals as goal

pub returns-clause-written : goal.returns-clause-written
returns-clause-written g c clean rows sees =
    subst (λ e. Sees (state g.S.Store c.add_bond.new.tx.conn.now) (with_bond rows e))
    (λ i. (c.bond_row-row.ensures.key i, c.bond_row-row.ensures.row i))
    (c.in_ok-add_bond.ensures.added clean rows sees)

pub returns-clause-room : goal.returns-clause-room
returns-clause-room g c clean inside rows sees n room = c.in_ok-add_bond.ensures.room clean inside rows sees n (room_less (state g.S.Store c.args.tx.now.conn.now) (n + 1) (1 + n) (omega arith) room)

pub returns-in_err-add_bond-clause-cause : goal.returns-in_err-add_bond-clause-cause
returns-in_err-add_bond-clause-cause g c clean inside endless rows sees room =
    statement_failed (state g.S.Store c.args.tx.now.conn.now) (state g.S.Store c.add_bond.new.tx.conn.now) c.from_residual.result c.in_err-add_bond.field-0.0 c.from_residual.ensures.1
    (c.in_err-add_bond.ensures.cause clean inside endless rows sees room)
