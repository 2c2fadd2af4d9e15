use Rattle.std.proofs.Common.{◌≡◌, ◌+◌, ◌++◌, List, length, map, take, drop, sym, ap, subst, arith, ◌∙◌}
use Rattle.std.proofs.lemmas.List.{map-append, take-append-drop}
use Rattle.std.proofs.lemmas.Result.{on_ok_weaker, IfErr-weaker}
use Rattle.sqlite.specs.Held.{state}
use Rattle.ee_store_tables.specs.declared.records.UnpaidBond.{UnpaidBond}
use Rattle.ee_store_tables.specs.AsRows.{entry_of_unpaid}
use Rattle.ee_store_tables.specs.Rows.{Sees, HasRoom, with_bonds, CanRegisterAll}
use Rattle.ee_store_tables.specs.Statements.{IsExcused}
use Rattle.ee_store_tables.proofs.CauseLemmas.{from_err, excused_after}
use Rattle.ee_store_tables.proofs.RoomLemmas.{room_less}
use Rattle.ee_store_tables.proofs.KeepLemmas.{clean_before, writes_then, one_if_any}
use Rattle.ee_store_tables.proofs.TenLemmas.{with_more, can_first, can_then}
use Rattle.ee_store_tables.proofs.bonds.+add_new_bonds.Goals as goal

-- the first ten, and the rest
in_two : (all ten rest : List UnpaidBond) → ten ≡ take 10 all → rest ≡ drop 10 all → map entry_of_unpaid all ≡ map entry_of_unpaid ten ++ map entry_of_unpaid rest
in_two all ten rest front back =
    ap (map entry_of_unpaid) (sym (take-append-drop 10 all) ∙ (λ q. sym front q ++ sym back q)) ∙ map-append entry_of_unpaid ten rest

pub returns-clause-added : goal.returns-clause-added
returns-clause-added g t c clean =
    let new = state g.S.Store c.add_new_bonds.new.tx.conn.now in
    let before = clean_before (state g.S.Store c.add_ten.new.tx.conn.now) new c.add_new_bonds.ensures.writes_if_any.crash clean in
    let ten = c.split_at.result.0.now in
    let rest = c.split_at.result.1.now in
    let all = in_two c.args.bonds.now ten rest c.split_at.ensures.front c.split_at.ensures.back in
    on_ok_weaker c.add_new_bonds.result (λ after rows sees.
    subst (Sees new) (sym (ap (with_bonds rows) all ∙ with_more rows (map entry_of_unpaid ten) (map entry_of_unpaid rest)))
    (after (with_bonds rows (map entry_of_unpaid ten)) (c.in_ok-add_ten.ensures.added before rows sees))) (c.add_new_bonds.ensures.added clean)

pub returns-in_err-add_ten-clause-cause : goal.returns-in_err-add_ten-clause-cause
returns-in_err-add_ten-clause-cause g t c clean inside endless rows sees allowed =
    let old = state g.S.Store c.args.tx.now.conn.now in
    let new = state g.S.Store c.add_ten.new.tx.conn.now in
    let ten = c.split_at.result.0.now in
    let rest = c.split_at.result.1.now in
    let all = in_two c.args.bonds.now ten rest c.split_at.ensures.front c.split_at.ensures.back in
    let can = can_first rows (map entry_of_unpaid ten) (map entry_of_unpaid rest) (subst (CanRegisterAll rows) all allowed.1) in
    let count = c.split_at.ensures.back_len in
    from_err c.from_residual.result c.from_residual.ensures.1 (λ failure same. subst (IsExcused old new) (sym same)
    (c.in_err-add_ten.ensures.cause clean inside endless rows sees (room_less old 10 _ (omega (arith, count)) allowed.0, can)))

pub returns-clause-writes_if_any : goal.returns-clause-writes_if_any
returns-clause-writes_if_any g t c =
    let old = state g.S.Store c.args.tx.now.conn.now in
    let middle = state g.S.Store c.add_ten.new.tx.conn.now in
    writes_then old middle (state g.S.Store c.add_new_bonds.new.tx.conn.now) _ c.add_new_bonds.result (one_if_any old middle _ c.in_ok-add_ten.ensures.writes_inside) c.add_new_bonds.ensures.writes_if_any

pub returns-clause-room : goal.returns-clause-room
returns-clause-room g t c clean inside =
    let old = state g.S.Store c.args.tx.now.conn.now in
    let middle = state g.S.Store c.add_ten.new.tx.conn.now in
    let new = state g.S.Store c.add_new_bonds.new.tx.conn.now in
    let before = clean_before middle new c.add_new_bonds.ensures.writes_if_any.crash clean in
    let it = c.in_ok-add_ten.ensures in
    let ten = c.split_at.result.0.now in
    let more = length c.split_at.result.1.now in
    on_ok_weaker c.add_new_bonds.result (λ takes rows sees n room.
    let count : n + length c.args.bonds.now ≡ n + more + 10 = omega (arith, c.split_at.ensures.back_len) in
    takes (with_bonds rows (map entry_of_unpaid ten)) (it.added before rows sees) n (it.room before inside rows sees (n + more) (subst (λ m. HasRoom m old) count room)))
    (c.add_new_bonds.ensures.room clean (it.writes_inside.inside before inside))

pub returns-clause-cause : goal.returns-clause-cause
returns-clause-cause g t c clean inside endless rows sees allowed =
    let old = state g.S.Store c.args.tx.now.conn.now in
    let middle = state g.S.Store c.add_ten.new.tx.conn.now in
    let new = state g.S.Store c.add_new_bonds.new.tx.conn.now in
    let before = clean_before middle new c.add_new_bonds.ensures.writes_if_any.crash clean in
    let it = c.in_ok-add_ten.ensures in
    let ten = c.split_at.result.0.now in
    let rest = c.split_at.result.1.now in
    let all = in_two c.args.bonds.now ten rest c.split_at.ensures.front c.split_at.ensures.back in
    let can = can_then rows (map entry_of_unpaid ten) (map entry_of_unpaid rest) (subst (CanRegisterAll rows) all allowed.1) in
    let room = it.room before inside rows sees (length rest) (room_less old (length rest + 10) _ (omega (arith, c.split_at.ensures.back_len)) allowed.0) in
    IfErr-weaker c.add_new_bonds.result _ _ (excused_after old middle new it.writes_inside.crash.counts (it.writes_inside.still_open before))
    (c.add_new_bonds.ensures.cause clean (it.writes_inside.inside before inside) (it.writes_inside.crash.limit ∙ endless) (with_bonds rows (map entry_of_unpaid ten)) (it.added before rows sees) (room, can))
