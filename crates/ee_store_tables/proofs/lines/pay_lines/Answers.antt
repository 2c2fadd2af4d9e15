use Rattle.std.proofs.Common.{◌+◌, length, map, sym, subst, arith, ◌∙◌}
use Rattle.std.proofs.lemmas.Result.{on_ok_weaker}
use Rattle.sqlite.specs.Held.{state}
use Rattle.ee_store_tables.specs.AsRows.{row_of_line}
use Rattle.ee_store_tables.specs.Rows.{Sees}
use Rattle.ee_store_tables.specs.Inner.Places.{with_places}
use Rattle.ee_store_tables.specs.Statements.{IsExcused}
use Rattle.ee_store_tables.proofs.CauseLemmas.{from_err, excused_from}
use Rattle.ee_store_tables.proofs.RoomLemmas.{room_less}
use Rattle.ee_store_tables.proofs.KeepLemmas.{clean_before, writes_then}
use Rattle.ee_store_tables.proofs.LineLemmas.{line_by_line, can_place}
use Rattle.ee_store_tables.proofs.lines.pay_lines.Goals as goal

pub returns-clause-added : goal.returns-clause-added
returns-clause-added g c clean =
    let middle = state g.S.Store c.add_lines.new.tx.conn.now in
    let new = state g.S.Store c.mark_lines.new.tx.conn.now in
    let before = clean_before middle new c.mark_lines.ensures.writes_if_any.crash clean in
    let lines = map row_of_line c.args.lines.now in
    on_ok_weaker c.mark_lines.result (λ after rows sees. subst (Sees new) (sym (line_by_line rows c.args.ticket c.args.place lines)) (after (with_places rows c.args.ticket c.args.place lines) (c.in_ok-add_lines.ensures.added before rows sees))) (c.mark_lines.ensures.marked clean)

pub returns-clause-writes_if_any : goal.returns-clause-writes_if_any
returns-clause-writes_if_any g c =
    writes_then (state g.S.Store c.args.tx.now.conn.now) (state g.S.Store c.add_lines.new.tx.conn.now) (state g.S.Store c.mark_lines.new.tx.conn.now) _ c.mark_lines.result
    c.in_ok-add_lines.ensures.writes_if_any c.mark_lines.ensures.writes_if_any

pub returns-clause-room : goal.returns-clause-room
returns-clause-room g c clean inside =
    let middle = state g.S.Store c.add_lines.new.tx.conn.now in
    let before = clean_before middle (state g.S.Store c.mark_lines.new.tx.conn.now) c.mark_lines.ensures.writes_if_any.crash clean in
    let it = c.in_ok-add_lines.ensures in
    on_ok_weaker c.mark_lines.result
    (λ keeps rows sees n room. keeps (with_places rows c.args.ticket c.args.place (map row_of_line c.args.lines.now)) (it.added before rows sees) n (it.room before inside rows sees n room))
    (c.mark_lines.ensures.room clean (it.writes_if_any.inside before inside))

pub returns-in_err-add_lines-clause-cause : goal.returns-in_err-add_lines-clause-cause
returns-in_err-add_lines-clause-cause g c clean inside endless rows sees allowed =
    let old = state g.S.Store c.args.tx.now.conn.now in
    let new = state g.S.Store c.add_lines.new.tx.conn.now in
    from_err c.from_residual.result c.from_residual.ensures.1 (λ failure same. subst (IsExcused old new) (sym same)
    (c.in_err-add_lines.ensures.cause clean inside endless rows sees (allowed.0, can_place rows c.args.ticket c.args.place (map row_of_line c.args.lines.now) allowed.1)))

pub returns-clause-cause : goal.returns-clause-cause
returns-clause-cause g c clean inside endless rows sees allowed =
    let old = state g.S.Store c.args.tx.now.conn.now in
    let middle = state g.S.Store c.add_lines.new.tx.conn.now in
    let new = state g.S.Store c.mark_lines.new.tx.conn.now in
    let before = clean_before middle new c.mark_lines.ensures.writes_if_any.crash clean in
    let it = c.in_ok-add_lines.ensures in
    excused_from old middle new c.mark_lines.result it.writes_if_any.crash.counts (it.writes_if_any.still_open before)
    (c.mark_lines.ensures.cause clean (it.writes_if_any.inside before inside) (it.writes_if_any.crash.limit ∙ endless) (with_places rows c.args.ticket c.args.place (map row_of_line c.args.lines.now)) (it.added before rows sees) (it.room before inside rows sees 0 (room_less old (0 + length c.args.lines.now) (length c.args.lines.now) (omega arith) allowed.0)))
