use Rattle.std.proofs.Common.{◌≡◌, ◌==◌, drop, find}
use Rattle.ee_desk.proofs.queries.ticket_numbered.Given as goal

abbrev pub invariant-loop-ticket : goal.invariant-loop-ticket
invariant-loop-ticket l = find (λ ticket. ticket.ticket == l.number) (drop l.ticket-index l.tickets) ≡ find (λ ticket. ticket.ticket == l.number) l.tickets
