use Rattle.std.proofs.Common.{◌≡◌, drop}
use Rattle.ee_desk_model.specs.PlainBooks.{ticket_of}
use Rattle.ee_desk.proofs.parts.ticket_of.Given as goal

abbrev pub invariant-loop-ticket : goal.invariant-loop-ticket
invariant-loop-ticket l = ticket_of (drop l.ticket-index l.tickets) l.serial ≡ ticket_of l.tickets l.serial
