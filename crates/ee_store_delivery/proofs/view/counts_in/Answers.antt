use Rattle.sqlite.specs.Held.{state}
use Rattle.ee_store_tables.proofs.Lemmas.Transactions.{clean_before}
use Rattle.ee_store_books.specs.Standing.{rows_of}
use Rattle.ee_store_books.specs.Seen.{SeesContent}
use Rattle.ee_store_books.proofs.Lemmas.Lookups.{seen_then, leaves_then, excused_later, handed_on}
use Rattle.std.proofs.Common.{rules, ◌∙◌}
use Rattle.ee_store_delivery.proofs.InOrder.{commits_then}
use Rattle.ee_store_delivery.proofs.view.counts_in.Goals as goal

pub returns-clause-found : goal.returns-clause-found
returns-clause-found g c clean inside S sees day =
    let middle = state g.S.Store c.tickets_in.new.tx.conn.now in
    let new = state g.S.Store c.counted_in.new.tx.conn.now in
    let before = clean_before middle new c.counted_in.ensures.only_reads.crash clean in
    let still : SeesContent middle S = record { right = sees.right; rows = (c.in_ok-tickets.ensures.only_reads.rows before inside (rows_of S) sees.rows).0 } in
    let tickets = c.in_ok-tickets.ensures.found before inside S sees in
    let counts = c.in_ok-counts.ensures.found clean (c.in_ok-tickets.ensures.only_reads.inside before inside) S still day tickets in
    (tickets, counts.0, counts.1, counts.2)

pub returns-clause-only_reads : goal.returns-clause-only_reads
returns-clause-only_reads g c = record {
  still_open = search rules;
  inside = λ clean inside.
      let before = clean_before (state g.S.Store c.tickets_in.new.tx.conn.now) (state g.S.Store c.counted_in.new.tx.conn.now) c.counted_in.ensures.only_reads.crash clean in
      c.in_ok-counts.ensures.only_reads.inside clean (c.in_ok-tickets.ensures.only_reads.inside before inside);
  rows = λ clean inside rows sees.
      let middle = state g.S.Store c.tickets_in.new.tx.conn.now in
      let new = state g.S.Store c.counted_in.new.tx.conn.now in
      let before = clean_before middle new c.counted_in.ensures.only_reads.crash clean in
      seen_then (state g.S.Store c.args.tx.now.conn.now) middle new rows (c.in_ok-tickets.ensures.only_reads.rows before inside rows sees) (c.in_ok-counts.ensures.only_reads.rows clean (c.in_ok-tickets.ensures.only_reads.inside before inside) rows);
  commit = commits_then (state g.S.Store c.args.tx.now.conn.now) (state g.S.Store c.tickets_in.new.tx.conn.now) (state g.S.Store c.counted_in.new.tx.conn.now)
      c.in_ok-tickets.ensures.only_reads.inside c.counted_in.ensures.only_reads.crash c.tickets_in.ensures.only_reads.commit c.counted_in.ensures.only_reads.commit;
  crash = search rules;
}

pub returns-in_err-counts-clause-cause : goal.returns-in_err-counts-clause-cause
returns-in_err-counts-clause-cause g c clean inside unlimited S sees any =
    let old = state g.S.Store c.args.tx.now.conn.now in
    let middle = state g.S.Store c.tickets_in.new.tx.conn.now in
    let new = state g.S.Store c.counted_in.new.tx.conn.now in
    let before = clean_before middle new c.counted_in.ensures.only_reads.crash clean in
    let still : SeesContent middle S = record { right = sees.right; rows = (c.in_ok-tickets.ensures.only_reads.rows before inside (rows_of S) sees.rows).0 } in
    handed_on _ c.from_residual-in_err-counts.result c.in_err-counts.field-0.0 c.from_residual-in_err-counts.ensures.1
    (excused_later old middle new clean c.tickets_in.ensures.only_reads.crash c.counted_in.ensures.only_reads.crash _
    (c.in_err-counts.ensures.cause clean (c.in_ok-tickets.ensures.only_reads.inside before inside) (c.tickets_in.ensures.only_reads.crash.limit ∙ unlimited) S still tt))

pub returns-in_err-counts-clause-only_reads : goal.returns-in_err-counts-clause-only_reads
returns-in_err-counts-clause-only_reads g c =
    let old = state g.S.Store c.args.tx.now.conn.now in
    let middle = state g.S.Store c.tickets_in.new.tx.conn.now in
    let new = state g.S.Store c.counted_in.new.tx.conn.now in
    record {
      still_open = search rules;
      inside = search rules;
      rows = search rules;
      commit = commits_then old middle new c.in_ok-tickets.ensures.only_reads.inside c.counted_in.ensures.only_reads.crash c.tickets_in.ensures.only_reads.commit c.counted_in.ensures.only_reads.commit;
      crash = leaves_then old middle new c.tickets_in.ensures.only_reads.crash c.counted_in.ensures.only_reads.crash;
    }
