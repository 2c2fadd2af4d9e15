use Rattle.std.proofs.Common.{rules, refl, sym, ap, ◌∙◌}
use Rattle.std.proofs.lemmas.List.{take_all}
use Rattle.std.specs.Cmp.{nat_cmp_total}
use Rattle.std.specs.FinMap as finite
use Rattle.std.specs.FinMap.{nat_cmp-IsAntisymmetric}
use Rattle.sqlite.specs.Held.{state}
use Rattle.ee_store_tables.proofs.Lemmas.Transactions.{clean_before}
use Rattle.ee_desk_model.specs.Views.{picked}
use Rattle.ee_store_books.specs.Standing.{rows_of}
use Rattle.ee_store_books.specs.Seen.{SeesContent}
use Rattle.ee_store_books.specs.Found.{with_found}
use Rattle.ee_store_books.proofs.Lemmas.Lookups.{found_next, nothing_done, done_then, leaves_then, excused_later, seen_then, handed_on}
use Rattle.ee_store_delivery.proofs.InOrder.{commits_then}
use Rattle.ee_store_delivery.proofs.view.terms_for.Goals as goal

pub loop-period-init : goal.loop-period-init
loop-period-init g c = record {
  same_reference = refl;
  stays = nothing_done (state g.S.Store c.args.tx.now.conn.now);
  rows = λ _ _ rows sees. (sees, λ n room. room);
  learns = λ _ _ _ _ are. are;
  found = λ _ _ _ _ _. c.no_terms-found.ensures;
}

pub loop-period-preserved : goal.loop-period-preserved
loop-period-preserved g c =
    let old = state g.S.Store c.args.tx.now.conn.now in
    let middle = state g.S.Store c.loop-period.tx.conn.now in
    let new = state g.S.Store c.terms_in.new.tx.conn.now in
    let was = c.loop-period.invariant in
    record {
      same_reference = c.terms_in.ensures.same_reference ∙ was.same_reference;
      stays = done_then old middle new was.stays c.terms_in.ensures.only_reads.crash c.terms_in.ensures.only_reads.commit c.in_ok-terms.ensures.only_reads.still_open c.in_ok-terms.ensures.only_reads.inside;
      rows = λ clean inside rows sees.
          let before = clean_before middle new c.terms_in.ensures.only_reads.crash clean in
          seen_then old middle new rows (was.rows before inside rows sees) (c.in_ok-terms.ensures.only_reads.rows clean (was.stays.inside before inside) rows);
      learns = λ clean inside S sees are.
          let before = clean_before middle new c.terms_in.ensures.only_reads.crash clean in
          let still : SeesContent middle S = record { right = sees.right; rows = (was.rows before inside (rows_of S) sees.rows).0 } in
          c.in_ok-terms.ensures.learns clean (was.stays.inside before inside) S still (was.learns before inside S sees are);
      found = λ clean inside S sees are.
          let before = clean_before middle new c.terms_in.ensures.only_reads.crash clean in
          let still : SeesContent middle S = record { right = sees.right; rows = (was.rows before inside (rows_of S) sees.rows).0 } in
          let terms = c.in_ok-terms.ensures.found clean (was.stays.inside before inside) S still (was.learns before inside S sees are) in
          c.in_ok-note_terms.ensures
          ∙ (λ i. with_found (was.found before inside S sees are i) (c.period-item.is i) ((terms ∙ ap (finite.get S.books.rates) c.period-item.is) i))
          ∙ sym (found_next nat_cmp_total nat_cmp-IsAntisymmetric (finite.get S.books.rates) c.args.periods.now c.loop-period.period-index c.period-item.result c.loop-period-test.true);
    }

pub returns-in_err-terms-clause-cause : goal.returns-in_err-terms-clause-cause
returns-in_err-terms-clause-cause g c clean inside endless S sees _ =
    let old = state g.S.Store c.args.tx.now.conn.now in
    let middle = state g.S.Store c.loop-period.tx.conn.now in
    let new = state g.S.Store c.terms_in.new.tx.conn.now in
    let was = c.loop-period.invariant in
    let before = clean_before middle new c.terms_in.ensures.only_reads.crash clean in
    let still : SeesContent middle S = record { right = sees.right; rows = (was.rows before inside (rows_of S) sees.rows).0 } in
    handed_on _ c.from_residual.result c.in_err-terms.field-0.0 c.from_residual.ensures.1
    (excused_later old middle new clean was.stays.crash c.terms_in.ensures.only_reads.crash _
    (c.in_err-terms.ensures.cause clean (was.stays.inside before inside) (was.stays.crash.limit ∙ endless) S still tt))

pub returns-in_err-note_terms-clause-only_reads : goal.returns-in_err-note_terms-clause-only_reads
returns-in_err-note_terms-clause-only_reads g c =
    let old = state g.S.Store c.args.tx.now.conn.now in
    let middle = state g.S.Store c.loop-period.tx.conn.now in
    let new = state g.S.Store c.terms_in.new.tx.conn.now in
    let was = c.loop-period.invariant in
    record {
      still_open = search rules;
      inside = search rules;
      rows = search rules;
      commit = commits_then old middle new was.stays.inside c.terms_in.ensures.only_reads.crash was.stays.commit c.terms_in.ensures.only_reads.commit;
      crash = leaves_then old middle new was.stays.crash c.terms_in.ensures.only_reads.crash;
    }

pub returns-clause-found : goal.returns-clause-found
returns-clause-found g c clean inside S sees known =
    c.loop-period.invariant.found clean inside S sees known ∙ ap (picked (finite.get S.books.rates)) (take_all c.loop-period.period-index c.args.periods.now c.loop-period-test.false)
