use Rattle.std.proofs.Common.{rules, ◌≡◌, ap, ◌∙◌}
use Rattle.std.specs.FinMap as finite
use Rattle.sqlite.specs.Held.{state}
use Rattle.ee_desk_model.specs.Seen.{held_of}
use Rattle.ee_desk_model.specs.Views.{picked, serials_of}
use Rattle.ee_store_tables.proofs.Lemmas.Transactions.{clean_before}
use Rattle.ee_store_books.specs.Standing.{rows_of}
use Rattle.ee_store_books.specs.Seen.{SeesContent}
use Rattle.ee_store_books.proofs.Lemmas.Lookups.{handed_on, excused_later, seen_then}
use Rattle.ee_store_delivery.proofs.InOrder.{commits_then}
use Rattle.ee_store_delivery.proofs.view.keys_in.Goals as goal

pub returns-clause-found : goal.returns-clause-found
returns-clause-found g c clean inside S sees are =
    let middle = state g.S.Store c.held_in.new.tx.conn.now in
    let new = state g.S.Store c.terms_for.new.tx.conn.now in
    let before = clean_before middle new c.terms_for.ensures.only_reads.crash clean in
    let still : SeesContent middle S = record { right = sees.right; rows = (c.in_ok-bonds.ensures.only_reads.rows before inside (rows_of S) sees.rows).0 } in
    let named : c.as_slice-named.result.now ≡ serials_of c.args.act.now = search rules in
    let bonds = c.in_ok-bonds.ensures.found before inside S sees ∙ ap (picked (held_of S.books)) named in
    let asked : c.as_slice-asked.result.now ≡ c.in_ok-periods.periods.items = search rules in
    let terms = c.in_ok-terms.ensures.found clean (c.in_ok-bonds.ensures.only_reads.inside before inside) S still are in
    (terms ∙ ap (picked (finite.get S.books.rates)) (asked ∙ c.in_ok-periods.ensures S.books bonds), bonds)

pub returns-clause-only_reads : goal.returns-clause-only_reads
returns-clause-only_reads g c = record {
  still_open = search rules;
  inside = λ clean inside.
      let before = clean_before (state g.S.Store c.held_in.new.tx.conn.now) (state g.S.Store c.terms_for.new.tx.conn.now) c.terms_for.ensures.only_reads.crash clean in
      c.in_ok-terms.ensures.only_reads.inside clean (c.in_ok-bonds.ensures.only_reads.inside before inside);
  rows = λ clean inside rows sees.
      let middle = state g.S.Store c.held_in.new.tx.conn.now in
      let new = state g.S.Store c.terms_for.new.tx.conn.now in
      let before = clean_before middle new c.terms_for.ensures.only_reads.crash clean in
      seen_then (state g.S.Store c.args.tx.now.conn.now) middle new rows (c.in_ok-bonds.ensures.only_reads.rows before inside rows sees) (c.in_ok-terms.ensures.only_reads.rows clean (c.in_ok-bonds.ensures.only_reads.inside before inside) rows);
  commit = commits_then (state g.S.Store c.args.tx.now.conn.now) (state g.S.Store c.held_in.new.tx.conn.now) (state g.S.Store c.terms_for.new.tx.conn.now)
      c.in_ok-bonds.ensures.only_reads.inside c.terms_for.ensures.only_reads.crash c.held_in.ensures.only_reads.commit c.terms_for.ensures.only_reads.commit;
  crash = search rules;
}

pub returns-in_err-terms-clause-cause : goal.returns-in_err-terms-clause-cause
returns-in_err-terms-clause-cause g c clean inside unlimited S sees any =
    let old = state g.S.Store c.args.tx.now.conn.now in
    let middle = state g.S.Store c.held_in.new.tx.conn.now in
    let new = state g.S.Store c.terms_for.new.tx.conn.now in
    let before = clean_before middle new c.terms_for.ensures.only_reads.crash clean in
    let still : SeesContent middle S = record { right = sees.right; rows = (c.in_ok-bonds.ensures.only_reads.rows before inside (rows_of S) sees.rows).0 } in
    handed_on _ c.from_residual-in_err-terms.result c.in_err-terms.field-0.0 c.from_residual-in_err-terms.ensures.1
    (excused_later old middle new clean c.held_in.ensures.only_reads.crash c.terms_for.ensures.only_reads.crash _
    (c.in_err-terms.ensures.cause clean (c.in_ok-bonds.ensures.only_reads.inside before inside) (c.held_in.ensures.only_reads.crash.limit ∙ unlimited) S still tt))

pub returns-clause-learns : goal.returns-clause-learns
returns-clause-learns g c clean inside S sees are =
    let middle = state g.S.Store c.held_in.new.tx.conn.now in
    let new = state g.S.Store c.terms_for.new.tx.conn.now in
    let before = clean_before middle new c.terms_for.ensures.only_reads.crash clean in
    let still : SeesContent middle S = record { right = sees.right; rows = (c.in_ok-bonds.ensures.only_reads.rows before inside (rows_of S) sees.rows).0 } in
    c.in_ok-terms.ensures.learns clean (c.in_ok-bonds.ensures.only_reads.inside before inside) S still are
