use Rattle.std.proofs.Common.{drop}
use Rattle.std.specs.List.{AllByRecursion}
use Rattle.ee_desk_texts.specs.Ranges.{TicketFits}
use Rattle.ee_store_contents.proofs.invariants.tickets_fit.Given as goal

abbrev pub invariant-loop-ticket : goal.invariant-loop-ticket
invariant-loop-ticket l = AllByRecursion TicketFits (drop l.ticket-index l.tickets) → AllByRecursion TicketFits l.tickets
