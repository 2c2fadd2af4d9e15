use Rattle.std.proofs.Common.{rules, ◌≡◌, ◌+◌, ◌++◌, map, length, take, drop, arith, sym, ap, ◌∙◌, subst}
use Rattle.std.proofs.lemmas.List.{take-append-drop}
use Rattle.std.proofs.lemmas.Result.{on_ok_weaker, IfErr-weaker}
use Rattle.sqlite.specs.Held.{state}
use Rattle.ee_store_tables.specs.AsRows.{entry_of_unpaid}
use Rattle.ee_store_tables.specs.Rows.{Sees, with_bonds}
use Rattle.ee_store_tables.proofs.Lemmas.Transactions.{clean_before}
use Rattle.ee_store_tables.proofs.Lemmas.Causes.{room_less}
use Rattle.ee_store_books.proofs.Lemmas.Lookups.{statement_failed, excused_later}
use Rattle.ee_store_delivery.proofs.InOrder.{writes_then}
use Rattle.ee_store_delivery.specs.Inner.Written.{applied_rows, CanWriteAll, all_added_rows}
use Rattle.ee_store_delivery.proofs.Together.{AreEntries, bonds_first, rows_first, can_together}
use Rattle.ee_store_delivery.proofs.writing.write_changes.Goals as goal

pub returns-clause-written : goal.returns-clause-written
returns-clause-written g c clean =
    let middle = state g.S.Store c.add_new_bonds.new.tx.conn.now in
    let new = state g.S.Store c.write_each.new.tx.conn.now in
    let before = clean_before middle new c.write_each.ensures.writes_if_any.crash clean in
    let last = c.args.last_day in
    let n = length c.in_ok-bonds.bonds.items in
    let changes = c.args.changes.now in
    let given : c.deref.result.now ≡ c.in_ok-bonds.bonds.items = search rules in
    let left : c.split_at.result.1.now ≡ drop n changes = search rules in
    let are : AreEntries c.deref.result.now (take n changes) = subst (λ rows. AreEntries rows (take n changes)) (sym given) c.in_ok-bonds.ensures.rows.1 in
    let two : changes ≡ take n changes ++ c.split_at.result.1.now = sym (take-append-drop n changes) ∙ ap (λ rest. take n changes ++ rest) (sym left) in
    on_ok_weaker c.write_each.result (λ written rows sees.
    subst (Sees new) (sym (ap (applied_rows last rows) two ∙ bonds_first last rows c.deref.result.now (take n changes) c.split_at.result.1.now are))
    (written (with_bonds rows (map entry_of_unpaid c.deref.result.now)) (c.in_ok-add_new_bonds.ensures.added before rows sees)))
    (c.write_each.ensures.written clean)

pub returns-clause-room : goal.returns-clause-room
returns-clause-room g c clean inside =
    let old = state g.S.Store c.args.tx.now.conn.now in
    let middle = state g.S.Store c.add_new_bonds.new.tx.conn.now in
    let new = state g.S.Store c.write_each.new.tx.conn.now in
    let before = clean_before middle new c.write_each.ensures.writes_if_any.crash clean in
    let n = length c.in_ok-bonds.bonds.items in
    let changes = c.args.changes.now in
    let given : c.deref.result.now ≡ c.in_ok-bonds.bonds.items = search rules in
    let left : c.split_at.result.1.now ≡ drop n changes = search rules in
    let are : AreEntries c.deref.result.now (take n changes) = subst (λ rows. AreEntries rows (take n changes)) (sym given) c.in_ok-bonds.ensures.rows.1 in
    let two : changes ≡ take n changes ++ c.split_at.result.1.now = sym (take-append-drop n changes) ∙ ap (λ rest. take n changes ++ rest) (sym left) in
    let all = ap all_added_rows two ∙ rows_first c.deref.result.now (take n changes) c.split_at.result.1.now are in
    on_ok_weaker c.write_each.result (λ leaves rows sees m room.
    leaves (with_bonds rows (map entry_of_unpaid c.deref.result.now)) (c.in_ok-add_new_bonds.ensures.added before rows sees) m
    (c.in_ok-add_new_bonds.ensures.room before inside rows sees (all_added_rows c.split_at.result.1.now + m)
    (room_less old _ (all_added_rows changes + m) (omega (arith, all)) room)))
    (c.write_each.ensures.room clean (c.in_ok-add_new_bonds.ensures.writes_if_any.inside before inside))

pub returns-in_err-add_new_bonds-clause-cause : goal.returns-in_err-add_new_bonds-clause-cause
returns-in_err-add_new_bonds-clause-cause g c clean inside endless rows sees can =
    let old = state g.S.Store c.args.tx.now.conn.now in
    let n = length c.in_ok-bonds.bonds.items in
    let changes = c.args.changes.now in
    let given : c.deref.result.now ≡ c.in_ok-bonds.bonds.items = search rules in
    let are : AreEntries c.deref.result.now (take n changes) = subst (λ rows. AreEntries rows (take n changes)) (sym given) c.in_ok-bonds.ensures.rows.1 in
    let two : changes ≡ take n changes ++ drop n changes = sym (take-append-drop n changes) in
    let all = ap all_added_rows two ∙ rows_first c.deref.result.now (take n changes) (drop n changes) are in
    statement_failed old (state g.S.Store c.add_new_bonds.new.tx.conn.now) c.from_residual-in_err-add_new_bonds.result c.in_err-add_new_bonds.field-0.0 c.from_residual-in_err-add_new_bonds.ensures.1
    (c.in_err-add_new_bonds.ensures.cause clean inside endless rows sees (
      room_less old (length c.deref.result.now) (all_added_rows changes) (omega (arith, all)) can.1,
      (can_together c.args.last_day rows c.deref.result.now (take n changes) (drop n changes) are (subst (CanWriteAll c.args.last_day rows) two can.0)).0,
    ))

pub returns-clause-cause : goal.returns-clause-cause
returns-clause-cause g c clean inside endless rows sees can =
    let old = state g.S.Store c.args.tx.now.conn.now in
    let middle = state g.S.Store c.add_new_bonds.new.tx.conn.now in
    let new = state g.S.Store c.write_each.new.tx.conn.now in
    let before = clean_before middle new c.write_each.ensures.writes_if_any.crash clean in
    let last = c.args.last_day in
    let n = length c.in_ok-bonds.bonds.items in
    let changes = c.args.changes.now in
    let given : c.deref.result.now ≡ c.in_ok-bonds.bonds.items = search rules in
    let left : c.split_at.result.1.now ≡ drop n changes = search rules in
    let are : AreEntries c.deref.result.now (take n changes) = subst (λ rows. AreEntries rows (take n changes)) (sym given) c.in_ok-bonds.ensures.rows.1 in
    let two : changes ≡ take n changes ++ c.split_at.result.1.now = sym (take-append-drop n changes) ∙ ap (λ rest. take n changes ++ rest) (sym left) in
    let all = ap all_added_rows two ∙ rows_first c.deref.result.now (take n changes) c.split_at.result.1.now are in
    let both = can_together last rows c.deref.result.now (take n changes) c.split_at.result.1.now are (subst (CanWriteAll last rows) two can.0) in
    IfErr-weaker c.write_each.result _ _ (excused_later old middle new clean c.add_new_bonds.ensures.writes_if_any.crash c.write_each.ensures.writes_if_any.crash)
    (c.write_each.ensures.cause clean (c.in_ok-add_new_bonds.ensures.writes_if_any.inside before inside) (c.add_new_bonds.ensures.writes_if_any.crash.limit ∙ endless)
    (with_bonds rows (map entry_of_unpaid c.deref.result.now)) (c.in_ok-add_new_bonds.ensures.added before rows sees) (
      both.1,
      c.in_ok-add_new_bonds.ensures.room before inside rows sees (all_added_rows c.split_at.result.1.now)
          (room_less old _ (all_added_rows changes) (omega (arith, all)) can.1),
    ))

pub returns-clause-writes_if_any : goal.returns-clause-writes_if_any
returns-clause-writes_if_any g c =
    writes_then (state g.S.Store c.args.tx.now.conn.now) (state g.S.Store c.add_new_bonds.new.tx.conn.now) (state g.S.Store c.write_each.new.tx.conn.now) _ c.write_each.result
    c.in_ok-add_new_bonds.ensures.writes_if_any c.write_each.ensures.writes_if_any
