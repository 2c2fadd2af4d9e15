use Rattle.std.proofs.Common.{◌≡◌, take}
use Rattle.ee_desk.proofs.parts.copy_tickets.Given as goal

abbrev pub invariant-loop-ticket : goal.invariant-loop-ticket
invariant-loop-ticket l = l.copies.items ≡ take l.ticket-index l.tickets
