use Rattle.std.proofs.Common.{OnOk, sym, subst}
use Rattle.sqlite.specs.Held.{state}
use Rattle.sqlite.specs.State.{HasCleanDisk}
use Rattle.ee_store_tables.specs.Rows.{Rows, Sees, HasRoom}
use Rattle.ee_store_delivery.specs.Inner.Written.{changed_rows, CanWrite, added_rows}
use Rattle.ee_store_delivery.specs.Inner.Causes.{LeavesRoom}
use Rattle.ee_store_delivery.proofs.writing.write_change.Goals as goal

pub returns-in-Rates-clause-written : goal.returns-in-Rates-clause-written
returns-in-Rates-clause-written g c =
    let new = state g.S.Store c.write_terms.new.tx.conn.now in
    subst (λ change. HasCleanDisk new → OnOk c.write_terms.result ((rows : Rows) → Sees (state g.S.Store c.args.tx.now.conn.now) rows → Sees new (changed_rows c.args.last_day rows change)))
    (sym c.in-Rates.is) c.write_terms.ensures.written

pub returns-in-Bond-clause-written : goal.returns-in-Bond-clause-written
returns-in-Bond-clause-written g c =
    let new = state g.S.Store c.write_bond.new.tx.conn.now in
    subst (λ change. HasCleanDisk new → OnOk c.write_bond.result ((rows : Rows) → Sees (state g.S.Store c.args.tx.now.conn.now) rows → Sees new (changed_rows c.args.last_day rows change)))
    (sym c.in-Bond.is) c.write_bond.ensures.written

pub returns-in-Day-clause-written : goal.returns-in-Day-clause-written
returns-in-Day-clause-written g c =
    let new = state g.S.Store c.write_day.new.tx.conn.now in
    subst (λ change. HasCleanDisk new → OnOk c.write_day.result ((rows : Rows) → Sees (state g.S.Store c.args.tx.now.conn.now) rows → Sees new (changed_rows c.args.last_day rows change)))
    (sym c.in-Day.is) c.write_day.ensures.written

pub returns-in-Ticket-clause-written : goal.returns-in-Ticket-clause-written
returns-in-Ticket-clause-written g c =
    let new = state g.S.Store c.write_ticket.new.tx.conn.now in
    subst (λ change. HasCleanDisk new → OnOk c.write_ticket.result ((rows : Rows) → Sees (state g.S.Store c.args.tx.now.conn.now) rows → Sees new (changed_rows c.args.last_day rows change)))
    (sym c.in-Ticket.is) c.write_ticket.ensures.written

pub returns-in-Batch-clause-written : goal.returns-in-Batch-clause-written
returns-in-Batch-clause-written g c =
    let new = state g.S.Store c.write_batch.new.tx.conn.now in
    subst (λ change. HasCleanDisk new → OnOk c.write_batch.result ((rows : Rows) → Sees (state g.S.Store c.args.tx.now.conn.now) rows → Sees new (changed_rows c.args.last_day rows change)))
    (sym c.in-Batch.is) c.write_batch.ensures.written

pub returns-in-Rates-clause-room : goal.returns-in-Rates-clause-room
returns-in-Rates-clause-room g c =
    subst (λ change. LeavesRoom (state g.S.Store c.args.tx.now.conn.now) (state g.S.Store c.write_terms.new.tx.conn.now) c.write_terms.result (added_rows change)) (sym c.in-Rates.is) c.write_terms.ensures.room

pub returns-in-Rates-clause-cause : goal.returns-in-Rates-clause-cause
returns-in-Rates-clause-cause g c clean inside endless rows sees can =
    let it = subst (λ change. CanWrite c.args.last_day rows change × HasRoom (added_rows change) (state g.S.Store c.args.tx.now.conn.now)) c.in-Rates.is can in
    c.write_terms.ensures.cause clean inside endless rows sees it.1

pub returns-in-Bond-clause-room : goal.returns-in-Bond-clause-room
returns-in-Bond-clause-room g c =
    subst (λ change. LeavesRoom (state g.S.Store c.args.tx.now.conn.now) (state g.S.Store c.write_bond.new.tx.conn.now) c.write_bond.result (added_rows change)) (sym c.in-Bond.is) c.write_bond.ensures.room

pub returns-in-Bond-clause-cause : goal.returns-in-Bond-clause-cause
returns-in-Bond-clause-cause g c clean inside endless rows sees can =
    let it = subst (λ change. CanWrite c.args.last_day rows change × HasRoom (added_rows change) (state g.S.Store c.args.tx.now.conn.now)) c.in-Bond.is can in
    c.write_bond.ensures.cause clean inside endless rows sees it.1

pub returns-in-Day-clause-room : goal.returns-in-Day-clause-room
returns-in-Day-clause-room g c =
    subst (λ change. LeavesRoom (state g.S.Store c.args.tx.now.conn.now) (state g.S.Store c.write_day.new.tx.conn.now) c.write_day.result (added_rows change)) (sym c.in-Day.is) c.write_day.ensures.room

pub returns-in-Day-clause-cause : goal.returns-in-Day-clause-cause
returns-in-Day-clause-cause g c clean inside endless rows sees can =
    let it = subst (λ change. CanWrite c.args.last_day rows change × HasRoom (added_rows change) (state g.S.Store c.args.tx.now.conn.now)) c.in-Day.is can in
    c.write_day.ensures.cause clean inside endless rows sees it

pub returns-in-Ticket-clause-room : goal.returns-in-Ticket-clause-room
returns-in-Ticket-clause-room g c =
    subst (λ change. LeavesRoom (state g.S.Store c.args.tx.now.conn.now) (state g.S.Store c.write_ticket.new.tx.conn.now) c.write_ticket.result (added_rows change)) (sym c.in-Ticket.is) c.write_ticket.ensures.room

pub returns-in-Ticket-clause-cause : goal.returns-in-Ticket-clause-cause
returns-in-Ticket-clause-cause g c clean inside endless rows sees can =
    let it = subst (λ change. CanWrite c.args.last_day rows change × HasRoom (added_rows change) (state g.S.Store c.args.tx.now.conn.now)) c.in-Ticket.is can in
    c.write_ticket.ensures.cause clean inside endless rows sees it

pub returns-in-Batch-clause-room : goal.returns-in-Batch-clause-room
returns-in-Batch-clause-room g c =
    subst (λ change. LeavesRoom (state g.S.Store c.args.tx.now.conn.now) (state g.S.Store c.write_batch.new.tx.conn.now) c.write_batch.result (added_rows change)) (sym c.in-Batch.is) c.write_batch.ensures.room

pub returns-in-Batch-clause-cause : goal.returns-in-Batch-clause-cause
returns-in-Batch-clause-cause g c clean inside endless rows sees can =
    let it = subst (λ change. CanWrite c.args.last_day rows change × HasRoom (added_rows change) (state g.S.Store c.args.tx.now.conn.now)) c.in-Batch.is can in
    c.write_batch.ensures.cause clean inside endless rows sees it
