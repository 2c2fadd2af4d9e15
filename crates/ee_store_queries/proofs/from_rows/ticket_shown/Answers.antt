use Rattle.std.proofs.Common.{rules}
use Rattle.ee_store_queries.proofs.from_rows.ticket_shown.Goals as goal

pub returns-clause-lines : goal.returns-clause-lines
returns-clause-lines c = search rules
