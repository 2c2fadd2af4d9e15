use Rattle.std.proofs.Common.{rules, ◌∙◌, ap, sym}
use Rattle.sqlite.specs.Held.{state}
use Rattle.std.proofs.lemmas.Result.{IfOk-weaker}
use Rattle.ee_store_tables.proofs.Lemmas.Transactions.{clean_before}
use Rattle.ee_store_books.specs.Standing.{rows_of}
use Rattle.ee_store_books.specs.Seen.{SeesContent}
use Rattle.ee_store_books.proofs.Lemmas.Lookups.{always, seen_then, leaves_then, excused_later, served, handed_on}
use Rattle.ee_store_delivery.proofs.InOrder.{commits_then}
use Rattle.ee_desk_model.specs.Views.{needed_unless}
use Rattle.ee_store_delivery.proofs.view.view_within.Goals as goal

pub returns-clause-found : goal.returns-clause-found
returns-clause-found g c clean inside =
    let a = state g.S.Store c.find_day_state.new.tx.conn.now in
    let new = state g.S.Store c.keys_in.new.tx.conn.now in
    let clean_a = clean_before a new c.keys_in.ensures.only_reads.crash clean in
    let inside_a = c.in_ok-day_state.ensures.only_reads.inside clean_a inside in
    IfOk-weaker c.view_from.result _ _ (λ view is S sees are.
    let sees_a : SeesContent a S = record { right = sees.right; rows = (c.in_ok-day_state.ensures.only_reads.rows clean_a inside (rows_of S) sees.rows).0 } in
    let d = c.in_ok-day_state.ensures.found clean_a inside S sees are in
    let k = c.in_ok-keys.ensures.found clean inside_a S sees_a are.terms in
    is ∙ λ i. record { rates = k.0 i; bonds = k.1 i; day = d.day i; last_day = d.last_day i; tickets = d.tickets i; day_tickets = d.day_tickets i; day_bonds = d.day_bonds i; day_total = d.day_total i })
    c.view_from.ensures.view

pub returns-clause-learns : goal.returns-clause-learns
returns-clause-learns g c clean inside =
    let a = state g.S.Store c.find_day_state.new.tx.conn.now in
    let new = state g.S.Store c.keys_in.new.tx.conn.now in
    let clean_a = clean_before a new c.keys_in.ensures.only_reads.crash clean in
    let inside_a = c.in_ok-day_state.ensures.only_reads.inside clean_a inside in
    always c.view_from.result (λ S sees are.
    let sees_a : SeesContent a S = record { right = sees.right; rows = (c.in_ok-day_state.ensures.only_reads.rows clean_a inside (rows_of S) sees.rows).0 } in
    c.note_day_state.ensures S.books
    (record { day_state = are.day_state; terms = c.in_ok-keys.ensures.learns clean inside_a S sees_a are.terms })
    (c.in_ok-day_state.ensures.found clean_a inside S sees are))

pub returns-clause-only_reads : goal.returns-clause-only_reads
returns-clause-only_reads g c = record {
  still_open = search rules;
  inside = search rules;
  rows = λ clean inside.
      let a = state g.S.Store c.find_day_state.new.tx.conn.now in
      let new = state g.S.Store c.keys_in.new.tx.conn.now in
      let clean_a = clean_before a new c.keys_in.ensures.only_reads.crash clean in
      let inside_a = c.in_ok-day_state.ensures.only_reads.inside clean_a inside in
      always c.view_from.result (λ rows sees.
      seen_then (state g.S.Store c.args.tx.now.conn.now) a new rows (c.in_ok-day_state.ensures.only_reads.rows clean_a inside rows sees) (c.in_ok-keys.ensures.only_reads.rows clean inside_a rows));
  commit = search rules;
  crash = search rules;
}

pub returns-in_err-keys-clause-only_reads : goal.returns-in_err-keys-clause-only_reads
returns-in_err-keys-clause-only_reads g c =
    let old = state g.S.Store c.args.tx.now.conn.now in
    let a = state g.S.Store c.find_day_state.new.tx.conn.now in
    let new = state g.S.Store c.keys_in.new.tx.conn.now in
    record {
      still_open = search rules;
      inside = search rules;
      rows = search rules;
      commit = commits_then old a new c.in_ok-day_state.ensures.only_reads.inside c.keys_in.ensures.only_reads.crash c.find_day_state.ensures.only_reads.commit c.keys_in.ensures.only_reads.commit;
      crash = leaves_then old a new c.find_day_state.ensures.only_reads.crash c.keys_in.ensures.only_reads.crash;
    }

pub returns-in_err-keys-clause-cause : goal.returns-in_err-keys-clause-cause
returns-in_err-keys-clause-cause g c clean inside unlimited S sees any =
    let old = state g.S.Store c.args.tx.now.conn.now in
    let a = state g.S.Store c.find_day_state.new.tx.conn.now in
    let new = state g.S.Store c.keys_in.new.tx.conn.now in
    let clean_a = clean_before a new c.keys_in.ensures.only_reads.crash clean in
    let sees_a : SeesContent a S = record { right = sees.right; rows = (c.in_ok-day_state.ensures.only_reads.rows clean_a inside (rows_of S) sees.rows).0 } in
    handed_on _ c.from_residual-in_err-keys.result c.in_err-keys.field-0.0 c.from_residual-in_err-keys.ensures.1
    (excused_later old a new clean c.find_day_state.ensures.only_reads.crash c.keys_in.ensures.only_reads.crash _
    (c.in_err-keys.ensures.cause clean (c.in_ok-day_state.ensures.only_reads.inside clean_a inside) (c.find_day_state.ensures.only_reads.crash.limit ∙ unlimited) S sees_a tt))

pub returns-clause-cause : goal.returns-clause-cause
returns-clause-cause g c clean inside unlimited S sees any =
    let a = state g.S.Store c.find_day_state.new.tx.conn.now in
    let new = state g.S.Store c.keys_in.new.tx.conn.now in
    let clean_a = clean_before a new c.keys_in.ensures.only_reads.crash clean in
    let inside_a = c.in_ok-day_state.ensures.only_reads.inside clean_a inside in
    let sees_a : SeesContent a S = record { right = sees.right; rows = (c.in_ok-day_state.ensures.only_reads.rows clean_a inside (rows_of S) sees.rows).0 } in
    let d = c.in_ok-day_state.ensures.found clean_a inside S sees any.0 in
    let k = c.in_ok-keys.ensures.found clean inside_a S sees_a any.0.terms in
    served _ c.view_from.result (c.view_from.ensures.fits S.books sees.right.sound c.args.act.now
    ((λ i. record { rates = k.0 i; bonds = k.1 i; day = d.day i; last_day = d.last_day i; tickets = d.tickets i; day_tickets = d.day_tickets i; day_bonds = d.day_bonds i; day_total = d.day_total i }) ∙ ap (needed_unless S.books c.args.act.now) (sym any.1)))
