use Rattle.std.proofs.Common.{rules, ap, ◌∙◌}
use Rattle.std.specs.Option.{unwrap_or}
use Rattle.sqlite.specs.Held.{state}
use Rattle.ee_store_tables.proofs.Lemmas.Transactions.{unchanged_inside}
use Rattle.ee_store_books.specs.Standing.{rows_of}
use Rattle.ee_store_books.proofs.DaySums.{last_is_count}
use Rattle.ee_store_books.proofs.HandedOn.{statement_failed}
use Rattle.ee_store_books.proofs.Causes.{unchanged_rows}
use Rattle.ee_store_books.proofs.ticket_counts.tickets_in.Goals as goal

pub returns-clause-found : goal.returns-clause-found
returns-clause-found g c clean inside S sees =
    c.or_zero.ensures ∙ ap (λ o. unwrap_or o 0) (c.in_ok-last.ensures.found clean (rows_of S) sees.rows) ∙ last_is_count S sees.right

pub returns-clause-only_reads : goal.returns-clause-only_reads
returns-clause-only_reads g c = record {
  still_open = search rules;
  inside = λ clean inside. unchanged_inside (state g.S.Store c.args.tx.now.conn.now) (state g.S.Store c.last_ticket.new.tx.conn.now) (c.in_ok-last.ensures.only_queries.same clean inside) inside;
  rows = λ clean inside rows sees.
      unchanged_rows (state g.S.Store c.args.tx.now.conn.now) (state g.S.Store c.last_ticket.new.tx.conn.now) (c.in_ok-last.ensures.only_queries.same clean inside) rows sees;
  commit = search rules;
  crash = search rules;
}

pub returns-in_err-last-clause-cause : goal.returns-in_err-last-clause-cause
returns-in_err-last-clause-cause g c clean inside unlimited S sees any =
    let old = state g.S.Store c.args.tx.now.conn.now in
    let new = state g.S.Store c.last_ticket.new.tx.conn.now in
    statement_failed old new c.from_residual.result c.in_err-last.field-0.0 c.from_residual.ensures.1 (c.in_err-last.ensures.cause clean inside unlimited (rows_of S) sees.rows tt)
