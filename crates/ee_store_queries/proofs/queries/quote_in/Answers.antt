use Rattle.std.proofs.Common.{rules}
use Rattle.ee_store_queries.proofs.queries.quote_in.Goals as goal

pub returns-clause-found : goal.returns-clause-found
returns-clause-found g c = search rules
