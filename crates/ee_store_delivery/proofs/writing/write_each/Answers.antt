use Rattle.std.proofs.Common.{rules, ◌≡◌, ℕ, ◌+◌, ◌<◌, add-one, List, ◌∷◌, length, drop, drop-cons, get_or, refl, sym, ap, ◌∙◌, subst, arith}
use Rattle.std.proofs.lemmas.List.{drop_all}
use Rattle.sqlite.specs.Held.{state}
use Rattle.sqlite.specs.State.{State}
use Rattle.ee_desk_model.specs.declared.changes.Change.{Change}
use Rattle.ee_store_tables.specs.Rows.{Sees, HasRoom}
use Rattle.ee_store_tables.proofs.Lemmas.Transactions.{clean_before}
use Rattle.ee_store_tables.proofs.Lemmas.Causes.{room_less}
use Rattle.ee_store_tables.specs.Statements.{IsExcused}
use Rattle.ee_store_delivery.specs.Inner.Written.{applied_rows, changed_rows, CanWriteAll, added_rows, all_added_rows}
use Rattle.ee_store_books.proofs.Lemmas.Lookups.{excused_later, nothing_done, done_then, leaves_then, handed_on}
use Rattle.ee_store_delivery.proofs.InOrder.{commits_then}
use Rattle.ee_store_delivery.proofs.writing.write_each.Goals as goal

-- the changes that are left are the next one and the later ones
left_is : (changes : List Change) (i : ℕ) (change : Change) → i < length changes → change ≡ get_or changes i change → drop i changes ≡ change ∷ drop (i + 1) changes
left_is changes i change below is =
    drop-cons changes i change below ∙ (λ k. sym is k ∷ drop (sym (add-one i) k) changes)

room_next : (now : State) (changes : List Change) (i n : ℕ) (change : Change) → drop i changes ≡ change ∷ drop (i + 1) changes
    → HasRoom (all_added_rows (drop i changes) + n) now → HasRoom (added_rows change + (all_added_rows (drop (i + 1) changes) + n)) now
room_next now changes i n change is room =
    let count = ap all_added_rows is in
    room_less now _ (all_added_rows (drop i changes) + n) (omega (arith, count)) room

pub loop-change-init : goal.loop-change-init
loop-change-init g c = record { same_reference = refl; stays = nothing_done (state g.S.Store c.args.tx.now.conn.now); written = λ _ rows sees. (rows, sees, refl, λ can. can); room = λ _ _ rows sees n room. room }

pub loop-change-preserved : goal.loop-change-preserved
loop-change-preserved g c =
    let old = state g.S.Store c.args.tx.now.conn.now in
    let middle = state g.S.Store c.loop-change.tx.conn.now in
    let new = state g.S.Store c.write_change.new.tx.conn.now in
    let was = c.loop-change.invariant in
    let last = c.args.last_day in
    let change = c.change-item.result in
    let left = left_is c.args.changes.now c.loop-change.change-index change c.loop-change-test.true c.change-item.is in
    record {
      same_reference = c.write_change.ensures.same_reference ∙ was.same_reference;
      stays = done_then old middle new was.stays c.write_change.ensures.writes_if_any.crash c.write_change.ensures.writes_if_any.commit c.in_ok-write_change.ensures.writes_if_any.still_open c.in_ok-write_change.ensures.writes_if_any.inside;
      written = λ clean rows sees.
          let here = was.written (clean_before middle new c.write_change.ensures.writes_if_any.crash clean) rows sees in (
            changed_rows last here.0 change,
            c.in_ok-write_change.ensures.written clean here.0 here.1,
            sym (ap (applied_rows last here.0) left) ∙ here.2,
            λ can. (subst (CanWriteAll last here.0) left (here.3 can)).1,
          );
      room = λ clean inside rows sees n room.
          let before = clean_before middle new c.write_change.ensures.writes_if_any.crash clean in
          let here = was.written before rows sees in
          c.in_ok-write_change.ensures.room clean (was.stays.inside before inside) here.0 here.1 (all_added_rows (drop (c.loop-change.change-index + 1) c.args.changes.now) + n)
          (room_next middle c.args.changes.now c.loop-change.change-index n change left (was.room before inside rows sees n room));
    }

pub returns-clause-written : goal.returns-clause-written
returns-clause-written g c clean rows sees =
    let here = c.loop-change.invariant.written clean rows sees in
    let all : here.0 ≡ applied_rows c.args.last_day rows c.args.changes.now
    = ap (applied_rows c.args.last_day here.0) (sym (drop_all c.loop-change.change-index c.args.changes.now c.loop-change-test.false)) ∙ here.2 in
    subst (Sees (state g.S.Store c.loop-change.tx.conn.now)) all here.1

pub returns-clause-room : goal.returns-clause-room
returns-clause-room g c clean inside rows sees n room =
    let none = ap all_added_rows (drop_all c.loop-change.change-index c.args.changes.now c.loop-change-test.false) in
    room_less (state g.S.Store c.loop-change.tx.conn.now) n _ (omega (arith, none)) (c.loop-change.invariant.room clean inside rows sees n room)

pub returns-in_err-write_change-clause-cause : goal.returns-in_err-write_change-clause-cause
returns-in_err-write_change-clause-cause g c clean inside endless rows sees can =
    let old = state g.S.Store c.args.tx.now.conn.now in
    let middle = state g.S.Store c.loop-change.tx.conn.now in
    let new = state g.S.Store c.write_change.new.tx.conn.now in
    let was = c.loop-change.invariant in
    let change = c.change-item.result in
    let changes = c.args.changes.now in
    let left = left_is changes c.loop-change.change-index change c.loop-change-test.true c.change-item.is in
    let before = clean_before middle new c.write_change.ensures.writes_if_any.crash clean in
    let here = was.written before rows sees in
    let room = room_next middle changes c.loop-change.change-index 0 change left (was.room before inside rows sees 0 (room_less old (all_added_rows changes + 0) (all_added_rows changes) (omega arith) can.1)) in
    let e = c.in_err-write_change.field-0.0 in
    handed_on (IsExcused old new) c.from_residual.result e c.from_residual.ensures.1
    (excused_later old middle new clean was.stays.crash c.write_change.ensures.writes_if_any.crash e
    (c.in_err-write_change.ensures.cause clean (was.stays.inside before inside) (was.stays.crash.limit ∙ endless) here.0 here.1
    ((subst (CanWriteAll c.args.last_day here.0) left (here.3 can.0)).0, room_less middle (added_rows change) _ (omega arith) room)))

pub returns-in_err-write_change-clause-writes_if_any : goal.returns-in_err-write_change-clause-writes_if_any
returns-in_err-write_change-clause-writes_if_any g c =
    let old = state g.S.Store c.args.tx.now.conn.now in
    let middle = state g.S.Store c.loop-change.tx.conn.now in
    let new = state g.S.Store c.write_change.new.tx.conn.now in
    let was = c.loop-change.invariant in
    record {
      still_open = search rules;
      inside = search rules;
      commit = commits_then old middle new was.stays.inside c.write_change.ensures.writes_if_any.crash was.stays.commit c.write_change.ensures.writes_if_any.commit;
      crash = leaves_then old middle new was.stays.crash c.write_change.ensures.writes_if_any.crash;
    }
