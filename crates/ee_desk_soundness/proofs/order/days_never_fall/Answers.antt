use Rattle.std.proofs.Common.{◌≡◌, ◌≤◌, true, map, refl, rules}
use Rattle.ee_desk_model.specs.declared.replies.Ticket.{Ticket}
use Rattle.ee_desk_model.specs.Sound.{day_of}
use Rattle.ee_desk_soundness.specs.Checks.{InOrder}
use Rattle.ee_desk_soundness.proofs.InOrder.{most_on, ordered_on}
use Rattle.ee_desk_soundness.proofs.order.days_never_fall.Goals as goal

pub loop-ticket-preserved : goal.loop-ticket-preserved
loop-ticket-preserved c =
    let holds : c.is_no_earlier.result ≡ true = search rules in
    ordered_on ◌≤◌ most_on (λ (x : Ticket). x.day) (map day_of) (λ x xs. refl) c.args.tickets.now c.loop-ticket.ticket-index c.ticket-item.result c.loop-ticket.last (InOrder ◌≤◌ (map day_of c.args.tickets.now))
    c.loop-ticket-test.true c.ticket-item.is (c.is_no_earlier.ensures.0 holds) c.loop-ticket.invariant
