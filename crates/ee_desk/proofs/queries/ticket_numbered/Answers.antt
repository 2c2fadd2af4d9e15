use Rattle.std.proofs.Common.{arith}
use Rattle.std.proofs.lemmas.Grind.{common_steps}
use Rattle.ee_desk.proofs.queries.ticket_numbered.Goals as goal

pub returns-then-ticket-number : goal.returns-then-ticket-number
returns-then-ticket-number c = grind (arith, common_steps)
