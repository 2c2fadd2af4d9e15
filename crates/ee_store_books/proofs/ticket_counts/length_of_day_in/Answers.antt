use Rattle.std.proofs.Common.{rules, ◌-◌, ap, ◌∙◌}
use Rattle.std.specs.Option.{option_map_or}
use Rattle.sqlite.specs.Held.{state}
use Rattle.ee_store_tables.specs.Rows.{first_number, tickets_on}
use Rattle.ee_store_tables.proofs.Lemmas.Transactions.{unchanged_inside}
use Rattle.ee_store_books.specs.Standing.{rows_of}
use Rattle.ee_store_books.proofs.DaySums.{from_first_on}
use Rattle.ee_store_books.proofs.HandedOn.{statement_failed}
use Rattle.ee_store_books.proofs.Causes.{unchanged_rows}
use Rattle.ee_store_books.proofs.ticket_counts.length_of_day_in.Goals as goal

pub returns-clause-found : goal.returns-clause-found
returns-clause-found g c clean inside S sees opened count =
    let found = c.in_ok-first.ensures.found clean (rows_of S) sees.rows ∙ ap (λ day. first_number (tickets_on (rows_of S) day)) c.count.ensures.value in
    c.from_first.ensures ∙ ap (λ o. option_map_or (λ m. c.args.tickets - (m - 1)) o 0) found ∙ from_first_on S c.args.day c.args.tickets sees.right opened count

pub returns-clause-only_reads : goal.returns-clause-only_reads
returns-clause-only_reads g c = record {
  still_open = search rules;
  inside = λ clean inside. unchanged_inside (state g.S.Store c.args.tx.now.conn.now) (state g.S.Store c.first_ticket.new.tx.conn.now) (c.in_ok-first.ensures.only_queries.same clean inside) inside;
  rows = λ clean inside rows sees.
      unchanged_rows (state g.S.Store c.args.tx.now.conn.now) (state g.S.Store c.first_ticket.new.tx.conn.now) (c.in_ok-first.ensures.only_queries.same clean inside) rows sees;
  commit = search rules;
  crash = search rules;
}

pub returns-in_err-first-clause-cause : goal.returns-in_err-first-clause-cause
returns-in_err-first-clause-cause g c clean inside unlimited S sees any =
    let old = state g.S.Store c.args.tx.now.conn.now in
    let new = state g.S.Store c.first_ticket.new.tx.conn.now in
    statement_failed old new c.from_residual.result c.in_err-first.field-0.0 c.from_residual.ensures.1 (c.in_err-first.ensures.cause clean inside unlimited (rows_of S) sees.rows tt)
