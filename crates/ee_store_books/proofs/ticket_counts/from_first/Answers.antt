use Rattle.std.proofs.Common.{rules}
use Rattle.ee_store_books.proofs.ticket_counts.from_first.Goals as goal

pub returns-in-Some : goal.returns-in-Some
returns-in-Some c = search rules
