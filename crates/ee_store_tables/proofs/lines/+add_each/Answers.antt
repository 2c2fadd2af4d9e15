use Rattle.std.proofs.Common.{◌≡◌, ◌+◌, length, map, sym, ap, subst, arith, ◌∙◌}
use Rattle.std.proofs.lemmas.List.{nil_from_length}
use Rattle.std.proofs.lemmas.List.Elements.{All-rest}
use Rattle.std.proofs.lemmas.Result.{on_ok_weaker, IfErr-weaker}
use Rattle.sqlite.specs.Held.{state}
use Rattle.ee_store_tables.specs.AsRows.{FitsLine, row_of_line}
use Rattle.ee_store_tables.specs.Rows.{Sees, HasRoom, with_paid}
use Rattle.ee_store_tables.specs.Inner.Places.{CanPlaceAll, with_places}
use Rattle.ee_store_tables.specs.Statements.{IsExcused}
use Rattle.ee_store_tables.proofs.CauseLemmas.{from_err, excused_after}
use Rattle.ee_store_tables.proofs.RoomLemmas.{room_less}
use Rattle.ee_store_tables.proofs.KeepLemmas.{clean_before}
use Rattle.ee_store_tables.proofs.lines.+add_each.Goals as goal

pub returns-in_ok-add_paid-in-Some-clause-added : goal.returns-in_ok-add_paid-in-Some-clause-added
returns-in_ok-add_paid-in-Some-clause-added g t c clean =
    let new = state g.S.Store c.add_each.new.tx.conn.now in
    let before = clean_before (state g.S.Store c.add_paid.new.tx.conn.now) new c.add_each.ensures.writes_if_any.crash clean in
    on_ok_weaker c.add_each.result (λ added rows sees. subst (λ lines. Sees new (with_places rows c.args.ticket c.args.place (map row_of_line lines))) (sym c.in-Some.ensures.cases.0)
    (added (with_paid rows (c.args.ticket, c.args.place) (row_of_line c.in-Some.line.now)) (c.in_ok-add_paid-in-Some.ensures.added before rows sees))) (c.add_each.ensures.added clean)

pub returns-in-None-clause-added : goal.returns-in-None-clause-added
returns-in-None-clause-added g t c clean rows sees =
    subst (λ lines. Sees (state g.S.Store c.args.tx.now.conn.now) (with_places rows c.args.ticket c.args.place (map row_of_line lines))) (sym (nil_from_length c.args.lines.now c.in-None.ensures.cases)) sees

pub returns-in_err-add_paid-in-Some-clause-cause : goal.returns-in_err-add_paid-in-Some-clause-cause
returns-in_err-add_paid-in-Some-clause-cause g t c clean inside endless rows sees allowed =
    let old = state g.S.Store c.args.tx.now.conn.now in
    let new = state g.S.Store c.add_paid.new.tx.conn.now in
    let all = subst (λ lines. HasRoom (length lines) old × CanPlaceAll rows c.args.ticket c.args.place (map row_of_line lines)) c.in-Some.ensures.cases.0 allowed in
    from_err c.from_residual.result c.from_residual.ensures.1 (λ failure same. subst (IsExcused old new) (sym same)
    (c.in_err-add_paid-in-Some.ensures.cause clean inside endless rows sees (room_less old 1 _ (omega arith) all.0, all.1.0)))

pub add_each-requires : goal.add_each-requires
add_each-requires g t c κs within =
    let count = ap length c.in-Some.ensures.cases.0 in
    (omega (arith, c.decreases, count), (within, (c.requires.ticket, (omega (arith, c.requires.places, count), All-rest FitsLine c.in-Some.line.now c.in-Some.rest.now c.args.lines.now c.in-Some.ensures.cases.0 c.requires.lines))))

pub returns-in_ok-add_paid-in-Some-clause-room : goal.returns-in_ok-add_paid-in-Some-clause-room
returns-in_ok-add_paid-in-Some-clause-room g t c clean inside =
    let old = state g.S.Store c.args.tx.now.conn.now in
    let middle = state g.S.Store c.add_paid.new.tx.conn.now in
    let new = state g.S.Store c.add_each.new.tx.conn.now in
    let before = clean_before middle new c.add_each.ensures.writes_if_any.crash clean in
    let it = c.in_ok-add_paid-in-Some.ensures in
    let more = length c.in-Some.rest.now in
    on_ok_weaker c.add_each.result (λ takes rows sees n room.
    let count : n + length c.args.lines.now ≡ n + more + 1 = omega (arith, ap length c.in-Some.ensures.cases.0) in
    takes (with_paid rows (c.args.ticket, c.args.place) (row_of_line c.in-Some.line.now)) (it.added before rows sees) n (it.room before inside rows sees (n + more) (subst (λ m. HasRoom m old) count room)))
    (c.add_each.ensures.room clean (it.writes_inside.inside before inside))

pub returns-in_ok-add_paid-in-Some-clause-cause : goal.returns-in_ok-add_paid-in-Some-clause-cause
returns-in_ok-add_paid-in-Some-clause-cause g t c clean inside endless rows sees allowed =
    let old = state g.S.Store c.args.tx.now.conn.now in
    let middle = state g.S.Store c.add_paid.new.tx.conn.now in
    let new = state g.S.Store c.add_each.new.tx.conn.now in
    let before = clean_before middle new c.add_each.ensures.writes_if_any.crash clean in
    let it = c.in_ok-add_paid-in-Some.ensures in
    let all = subst (λ lines. HasRoom (length lines) old × CanPlaceAll rows c.args.ticket c.args.place (map row_of_line lines)) c.in-Some.ensures.cases.0 allowed in
    let room = it.room before inside rows sees (length c.in-Some.rest.now) (room_less old (length c.in-Some.rest.now + 1) _ (omega arith) all.0) in
    IfErr-weaker c.add_each.result _ _ (excused_after old middle new it.writes_inside.crash.counts (it.writes_inside.still_open before))
    (c.add_each.ensures.cause clean (it.writes_inside.inside before inside) (it.writes_inside.crash.limit ∙ endless) (with_paid rows (c.args.ticket, c.args.place) (row_of_line c.in-Some.line.now)) (it.added before rows sees) (room, all.1.1))
