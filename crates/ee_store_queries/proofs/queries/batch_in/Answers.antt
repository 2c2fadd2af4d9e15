use Rattle.std.proofs.Common.{ap, ◌∙◌}
use Rattle.std.specs.FinMap as finite
use Rattle.sqlite.specs.Held.{state}
use Rattle.ee_store_books.specs.Standing.{rows_of}
use Rattle.ee_store_queries.proofs.FoundTickets.{batch_found}
use Rattle.ee_store_books.proofs.Lemmas.Lookups.{statement_failed}
use Rattle.ee_store_queries.proofs.queries.batch_in.Goals as goal

pub returns-clause-found : goal.returns-clause-found
returns-clause-found g c clean inside S sees =
    batch_found S c.args.day c.batch_shown.result c.batch_shown.ensures.day
    (c.batch_shown.ensures.row ∙ c.in_ok-found.ensures.found clean (rows_of S) sees.rows ∙ ap (finite.get (rows_of S).batches) c.count.ensures.value)

pub returns-in_err-found-clause-cause : goal.returns-in_err-found-clause-cause
returns-in_err-found-clause-cause g c clean inside endless S sees _ =
    statement_failed (state g.S.Store c.args.tx.now.conn.now) (state g.S.Store c.find_batch.new.tx.conn.now) c.from_residual.result c.in_err-found.field-0.0 c.from_residual.ensures.1
    (c.in_err-found.ensures.cause clean inside endless (rows_of S) sees.rows tt)
