use Rattle.std.proofs.Common.{rules, ap, ◌∙◌}
use Rattle.std.specs.FinMap as finite
use Rattle.sqlite.specs.Held.{state}
use Rattle.ee_store_tables.proofs.Lemmas.Transactions.{clean_before, unchanged_sees, unchanged_inside}
use Rattle.ee_store_books.specs.Standing.{rows_of}
use Rattle.ee_store_books.proofs.Lemmas.Contents.{get_rate_row, get_extension_row}
use Rattle.ee_store_books.proofs.HandedOn.{statement_failed}
use Rattle.ee_store_books.proofs.Causes.{unchanged_rows, seen_then, excused_later}
use Rattle.ee_store_books.proofs.terms.find_rates.Goals as goal

pub returns-clause-found : goal.returns-clause-found
returns-clause-found g c clean inside S sees =
    let old = state g.S.Store c.args.tx.now.conn.now in
    let middle = state g.S.Store c.find_rate.new.tx.conn.now in
    let new = state g.S.Store c.find_extension.new.tx.conn.now in
    let before = clean_before middle new c.find_extension.ensures.only_queries.crash clean in
    let still = unchanged_sees old middle (rows_of S) (c.in_ok-fixed.ensures.only_queries.same before inside) sees.rows in (
      c.in_ok-fixed.ensures.found before (rows_of S) sees.rows ∙ ap (finite.get (rows_of S).rates) c.count-key.ensures.value
          ∙ get_rate_row S.books.rates c.args.period,
      c.in_ok-extension.ensures.found clean (rows_of S) still ∙ ap (finite.get (rows_of S).extensions) c.count-key.ensures.value
          ∙ get_extension_row S.books.rates c.args.period,
    )

pub returns-clause-only_reads : goal.returns-clause-only_reads
returns-clause-only_reads g c = record {
  still_open = search rules;
  inside = λ clean inside.
      let old = state g.S.Store c.args.tx.now.conn.now in
      let middle = state g.S.Store c.find_rate.new.tx.conn.now in
      let new = state g.S.Store c.find_extension.new.tx.conn.now in
      let before = clean_before middle new c.find_extension.ensures.only_queries.crash clean in
      let still = unchanged_inside old middle (c.in_ok-fixed.ensures.only_queries.same before inside) inside in
      unchanged_inside middle new (c.in_ok-extension.ensures.only_queries.same clean still) still;
  rows = λ clean inside rows sees.
      let old = state g.S.Store c.args.tx.now.conn.now in
      let middle = state g.S.Store c.find_rate.new.tx.conn.now in
      let new = state g.S.Store c.find_extension.new.tx.conn.now in
      let before = clean_before middle new c.find_extension.ensures.only_queries.crash clean in
      seen_then old middle new rows (unchanged_rows old middle (c.in_ok-fixed.ensures.only_queries.same before inside) rows sees)
      (unchanged_rows middle new (c.in_ok-extension.ensures.only_queries.same clean (unchanged_inside old middle (c.in_ok-fixed.ensures.only_queries.same before inside) inside)) rows);
  commit = search rules;
  crash = search rules;
}

pub returns-in_err-fixed-clause-cause : goal.returns-in_err-fixed-clause-cause
returns-in_err-fixed-clause-cause g c clean inside endless S sees _ =
    statement_failed (state g.S.Store c.args.tx.now.conn.now) (state g.S.Store c.find_rate.new.tx.conn.now) c.from_residual.result c.in_err-fixed.field-0.0 c.from_residual.ensures.1
    (c.in_err-fixed.ensures.cause clean inside endless (rows_of S) sees.rows tt)

pub returns-in_err-extension-clause-cause : goal.returns-in_err-extension-clause-cause
returns-in_err-extension-clause-cause g c clean inside endless S sees _ =
    let old = state g.S.Store c.args.tx.now.conn.now in
    let middle = state g.S.Store c.find_rate.new.tx.conn.now in
    let new = state g.S.Store c.find_extension.new.tx.conn.now in
    let before = clean_before middle new c.find_extension.ensures.only_queries.crash clean in
    let still = unchanged_sees old middle (rows_of S) (c.in_ok-fixed.ensures.only_queries.same before inside) sees.rows in
    statement_failed old new c.from_residual-in_err-extension.result c.in_err-extension.field-0.0 c.from_residual-in_err-extension.ensures.1
    (excused_later old middle new clean c.find_rate.ensures.only_queries.crash c.find_extension.ensures.only_queries.crash _
    (c.in_err-extension.ensures.cause clean (unchanged_inside old middle (c.in_ok-fixed.ensures.only_queries.same before inside) inside) (c.find_rate.ensures.only_queries.crash.limit ∙ endless) (rows_of S) still tt))
