use Rattle.std.proofs.Common.{rules, ◌≡◌, ℕ, ◌+◌, List, map, length, arith, sym, ap, ◌∙◌, subst}
use Rattle.std.specs.List.{AllByRecursion}
use Rattle.std.specs.FinMap.{get}
use Rattle.sqlite.specs.Held.{state}
use Rattle.ee_store_tables.specs.Rows.{Sees, TicketRow, PaidRow, with_ticket, with_lines, CanPayAll}
use Rattle.ee_store_tables.specs.AsRows.{Fits, row_of_ticket, row_of_line}
use Rattle.ee_store_tables.proofs.Lemmas.Transactions.{clean_before}
use Rattle.ee_store_tables.proofs.Lemmas.Causes.{room_less}
use Rattle.ee_store_rows.specs.Rows.{paid_row}
use Rattle.ee_store_books.proofs.Lemmas.Lookups.{statement_failed, memory_handed_on}
use Rattle.ee_store_delivery.proofs.InOrder.{one_if_any, writes_then}
use Rattle.ee_store_delivery.proofs.WriteCauses.{same_length, later_failed}
use Rattle.ee_store_delivery.proofs.writing.write_ticket.Goals as goal

pub returns-clause-written : goal.returns-clause-written
returns-clause-written g c clean rows sees =
    let middle = state g.S.Store c.add_ticket.new.tx.conn.now in
    let new = state g.S.Store c.pay_lines.new.tx.conn.now in
    let before = clean_before middle new c.pay_lines.ensures.writes_if_any.crash clean in
    let lines : map row_of_line c.deref.result.now ≡ map paid_row c.args.ticket.now.lines = search rules in
    subst (λ (d : ℕ × (TicketRow × List PaidRow)). Sees new (with_lines (with_ticket rows d.0 d.1.0) d.0 1 d.1.1))
    (λ i. (c.in_ok-number.ensures.value.0 i, (c.in_ok-row.ensures.row.0 i, lines i)))
    (c.in_ok-pay_lines.ensures.added clean (with_ticket rows c.in_ok-number.number (row_of_ticket c.in_ok-row.row)) (c.in_ok-add_ticket.ensures.added before rows sees))

pub returns-clause-room : goal.returns-clause-room
returns-clause-room g c clean inside rows sees n room =
    let old = state g.S.Store c.args.tx.now.conn.now in
    let middle = state g.S.Store c.add_ticket.new.tx.conn.now in
    let new = state g.S.Store c.pay_lines.new.tx.conn.now in
    let before = clean_before middle new c.pay_lines.ensures.writes_if_any.crash clean in
    let lines : map row_of_line c.deref.result.now ≡ map paid_row c.args.ticket.now.lines = search rules in
    let count = same_length row_of_line paid_row _ _ lines in
    let more = c.in_ok-add_ticket.ensures.room before inside rows sees (n + length c.deref.result.now) (room_less old (n + length c.deref.result.now) (length c.args.ticket.now.lines + n) (omega (arith, count)) room) in
    c.in_ok-pay_lines.ensures.room clean (c.in_ok-add_ticket.ensures.writes_inside.inside before inside)
    (with_ticket rows c.in_ok-number.number (row_of_ticket c.in_ok-row.row)) (c.in_ok-add_ticket.ensures.added before rows sees) n more

pub returns-in_err-number-clause-cause : goal.returns-in_err-number-clause-cause
returns-in_err-number-clause-cause g c clean inside endless rows sees can = cc (c.in_err-number.ensures.fits can.0.number)

pub returns-in_err-row-clause-cause : goal.returns-in_err-row-clause-cause
returns-in_err-row-clause-cause g c clean inside endless rows sees can = cc (c.in_err-row.ensures.fits can.0.few can.0.total)

pub returns-in_err-lines-clause-cause : goal.returns-in_err-lines-clause-cause
returns-in_err-lines-clause-cause g c clean inside endless rows sees can =
    let old = state g.S.Store c.args.tx.now.conn.now in
    let cents : AllByRecursion (λ line. Fits line.cents.0) c.as_slice.result.now = subst (AllByRecursion (λ line. Fits line.cents.0)) (search rules) can.0.cents in
    memory_handed_on old old c.from_residual-in_err-lines.result c.in_err-lines.field-0.0 c.from_residual-in_err-lines.ensures.1 (c.in_err-lines.ensures.served cents)

pub returns-in_err-add_ticket-clause-cause : goal.returns-in_err-add_ticket-clause-cause
returns-in_err-add_ticket-clause-cause g c clean inside endless rows sees can =
    let old = state g.S.Store c.args.tx.now.conn.now in
    statement_failed old (state g.S.Store c.add_ticket.new.tx.conn.now) c.from_residual-in_err-add_ticket.result c.in_err-add_ticket.field-0.0 c.from_residual-in_err-add_ticket.ensures.1
    (c.in_err-add_ticket.ensures.cause clean inside endless rows sees
    (room_less old 0 (length c.args.ticket.now.lines) (omega arith) can.1, ap (get rows.tickets) c.in_ok-number.ensures.value.0 ∙ can.0.new))

pub returns-in_err-pay_lines-clause-cause : goal.returns-in_err-pay_lines-clause-cause
returns-in_err-pay_lines-clause-cause g c clean inside endless rows sees can =
    let old = state g.S.Store c.args.tx.now.conn.now in
    let middle = state g.S.Store c.add_ticket.new.tx.conn.now in
    let new = state g.S.Store c.pay_lines.new.tx.conn.now in
    let before = clean_before middle new c.pay_lines.ensures.writes_if_any.crash clean in
    let lines : map row_of_line c.deref.result.now ≡ map paid_row c.args.ticket.now.lines = search rules in
    let count = same_length row_of_line paid_row _ _ lines in
    later_failed old middle new clean c.add_ticket.ensures.writes_inside.crash c.pay_lines.ensures.writes_if_any.crash c.from_residual-in_err-pay_lines.result c.in_err-pay_lines.field-0.0 c.from_residual-in_err-pay_lines.ensures.1
    (c.in_err-pay_lines.ensures.cause clean (c.in_ok-add_ticket.ensures.writes_inside.inside before inside) (c.add_ticket.ensures.writes_inside.crash.limit ∙ endless)
    (with_ticket rows c.in_ok-number.number (row_of_ticket c.in_ok-row.row)) (c.in_ok-add_ticket.ensures.added before rows sees) (
      c.in_ok-add_ticket.ensures.room before inside rows sees (length c.deref.result.now) (room_less old (length c.deref.result.now) (length c.args.ticket.now.lines) (omega (arith, count)) can.1),
      subst (λ (d : ℕ × (TicketRow × List PaidRow)). CanPayAll (with_ticket rows d.0 d.1.0) d.0 1 d.1.1)
          (λ i. (sym c.in_ok-number.ensures.value.0 i, (sym c.in_ok-row.ensures.row.0 i, sym lines i))) can.0.unpaid,
    ))

pub returns-clause-writes_if_any : goal.returns-clause-writes_if_any
returns-clause-writes_if_any g c =
    let old = state g.S.Store c.args.tx.now.conn.now in
    let middle = state g.S.Store c.add_ticket.new.tx.conn.now in
    let new = state g.S.Store c.pay_lines.new.tx.conn.now in
    writes_then old middle new _ _ (one_if_any old middle _ c.in_ok-add_ticket.ensures.writes_inside) c.in_ok-pay_lines.ensures.writes_if_any
