use Rattle.std.proofs.Common.{refl, sym, ap, ◌∙◌}
use Rattle.sqlite.specs.Held.{state}
use Rattle.ee_desk_model.specs.Seen.{held_of}
use Rattle.ee_desk_model.proofs.Lemmas.Maps.{serials_total, serials_exact}
use Rattle.ee_store_tables.proofs.Lemmas.Transactions.{clean_before}
use Rattle.ee_store_books.specs.Standing.{rows_of}
use Rattle.ee_store_books.specs.Seen.{SeesContent}
use Rattle.ee_store_books.specs.Found.{with_found}
use Rattle.ee_store_books.proofs.ByKeys.{found_next}
use Rattle.ee_store_books.proofs.InTurn.{nothing_done, done_then}
use Rattle.ee_store_books.proofs.HandedOn.{handed_on}
use Rattle.ee_store_books.proofs.Causes.{excused_later, seen_then}
use Rattle.ee_store_books.proofs.held_bonds.held_in.Goals as goal

pub loop-serial-init : goal.loop-serial-init
loop-serial-init g c = record { same_reference = refl; stays = nothing_done (state g.S.Store c.args.tx.now.conn.now); rows = λ _ _ rows sees. (sees, λ n room. room); found = λ _ _ _ _. c.no_bonds-found.ensures }

pub loop-serial-preserved : goal.loop-serial-preserved
loop-serial-preserved g c =
    let old = state g.S.Store c.args.tx.now.conn.now in
    let middle = state g.S.Store c.loop-serial.tx.conn.now in
    let new = state g.S.Store c.find_held.new.tx.conn.now in
    let was = c.loop-serial.invariant in
    record {
      same_reference = c.find_held.ensures.same_reference ∙ was.same_reference;
      stays = done_then old middle new was.stays c.find_held.ensures.only_reads.crash c.find_held.ensures.only_reads.commit c.in_ok-held.ensures.only_reads.still_open c.in_ok-held.ensures.only_reads.inside;
      rows = λ clean inside rows sees.
          let before = clean_before middle new c.find_held.ensures.only_reads.crash clean in
          seen_then old middle new rows (was.rows before inside rows sees) (c.in_ok-held.ensures.only_reads.rows clean (was.stays.inside before inside) rows);
      found = λ clean inside S sees.
          let before = clean_before middle new c.find_held.ensures.only_reads.crash clean in
          let still : SeesContent middle S = record { right = sees.right; rows = (was.rows before inside (rows_of S) sees.rows).0 } in
          let held = c.in_ok-held.ensures.found clean (was.stays.inside before inside) S still in
          c.in_ok-note_held.ensures
          ∙ (λ i. with_found (was.found before inside S sees i) (c.serial-item.is i) ((held ∙ ap (held_of S.books) c.serial-item.is) i))
          ∙ sym (found_next serials_total serials_exact (held_of S.books) c.args.serials.now c.loop-serial.serial-index c.serial-item.result c.loop-serial-test.true);
    }

pub returns-in_err-held-clause-cause : goal.returns-in_err-held-clause-cause
returns-in_err-held-clause-cause g c clean inside unlimited S sees any =
    let old = state g.S.Store c.args.tx.now.conn.now in
    let middle = state g.S.Store c.loop-serial.tx.conn.now in
    let new = state g.S.Store c.find_held.new.tx.conn.now in
    let was = c.loop-serial.invariant in
    let before = clean_before middle new c.find_held.ensures.only_reads.crash clean in
    let still : SeesContent middle S = record { right = sees.right; rows = (was.rows before inside (rows_of S) sees.rows).0 } in
    handed_on _ c.from_residual.result c.in_err-held.field-0.0 c.from_residual.ensures.1
    (excused_later old middle new clean was.stays.crash c.find_held.ensures.only_reads.crash _
    (c.in_err-held.ensures.cause clean (was.stays.inside before inside) (was.stays.crash.limit ∙ unlimited) S still tt))
