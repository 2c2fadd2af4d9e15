use Rattle.std.proofs.Common.{true, false, sym, ◌∙◌}
use Rattle.ee_desk.proofs.HeldRows.{next_ticket}
use Rattle.ee_desk.proofs.parts.ticket_of.Goals as goal

pub returns-then-pay : goal.returns-then-pay
returns-then-pay c =
    sym (next_ticket c.args.tickets.now c.loop-ticket.ticket-index c.ticket-item.result c.as_slice.result.now c.args.serial true
    c.loop-ticket-test.true c.ticket-item.is c.as_slice.ensures (sym c.pay.ensures ∙ c.if-pay.true)) ∙ c.loop-ticket.invariant

pub loop-ticket-preserved : goal.loop-ticket-preserved
loop-ticket-preserved c =
    sym (next_ticket c.args.tickets.now c.loop-ticket.ticket-index c.ticket-item.result c.as_slice.result.now c.args.serial false
    c.loop-ticket-test.true c.ticket-item.is c.as_slice.ensures (sym c.pay.ensures ∙ c.if-pay.false)) ∙ c.loop-ticket.invariant
