use Rattle.std.proofs.Common.{◌≡◌, ◌+◌, ℕ, [], ◌∷◌, length, map, sym, ap, subst, arith, ◌∙◌}
use Rattle.std.specs.List.{All}
use Rattle.std.proofs.lemmas.List.Elements.{recursion_from_All, All-from_recursion}
use Rattle.std.proofs.lemmas.Result.{on_ok_weaker, IfErr-weaker}
use Rattle.sqlite.specs.Held.{state}
use Rattle.ee_store_tables.specs.AsRows.{FitsLine, row_of_line}
use Rattle.ee_store_tables.specs.Rows.{Sees, HasRoom}
use Rattle.ee_store_tables.specs.Inner.Places.{CanPlaceAll, with_places}
use Rattle.ee_store_tables.specs.Statements.{IsExcused}
use Rattle.ee_store_tables.proofs.CauseLemmas.{from_err, excused_after}
use Rattle.ee_store_tables.proofs.RoomLemmas.{room_less}
use Rattle.ee_store_tables.proofs.KeepLemmas.{clean_before}
use Rattle.ee_store_tables.proofs.lines.+add_lines.Goals as goal

four_on : (place : ℕ) → place + 4 ≡ place + 1 + 1 + 1 + 1
four_on place = omega arith

pub add_four-requires : goal.add_four-requires
add_four-requires g t c =
    let f = c.in-Some.four in
    let fit = recursion_from_All FitsLine (f.first ∷ f.second ∷ f.third ∷ f.fourth ∷ f.rest.now) (subst (All FitsLine) c.in-Some.ensures c.requires.lines) in
    record { ticket = c.requires.ticket; places = omega (arith, c.requires.places, ap length c.in-Some.ensures); first = fit.0; second = fit.1.0; third = fit.1.1.0; fourth = fit.1.1.1.0 }

pub add_lines-requires : goal.add_lines-requires
add_lines-requires g t c κs within =
    let f = c.in-Some.four in
    let count = ap length c.in-Some.ensures in
    let fit = recursion_from_All FitsLine (f.first ∷ f.second ∷ f.third ∷ f.fourth ∷ f.rest.now) (subst (All FitsLine) c.in-Some.ensures c.requires.lines) in
    (omega (arith, c.decreases, count), (within, (c.requires.ticket, (omega (arith, c.requires.places, count), All-from_recursion FitsLine f.rest.now fit.1.1.1.1))))

pub returns-in_ok-add_four-in-Some-clause-added : goal.returns-in_ok-add_four-in-Some-clause-added
returns-in_ok-add_four-in-Some-clause-added g t c clean =
    let new = state g.S.Store c.add_lines.new.tx.conn.now in
    let before = clean_before (state g.S.Store c.add_four.new.tx.conn.now) new c.add_lines.ensures.writes_if_any.crash clean in
    let it = c.in-Some.four in
    let four = row_of_line it.first ∷ row_of_line it.second ∷ row_of_line it.third ∷ row_of_line it.fourth ∷ [] in
    on_ok_weaker c.add_lines.result (λ after rows sees. subst (λ lines. Sees new (with_places rows c.args.ticket c.args.place (map row_of_line lines))) (sym c.in-Some.ensures)
    (subst (λ place. Sees new (with_places (with_places rows c.args.ticket c.args.place four) c.args.ticket place (map row_of_line it.rest.now))) (four_on c.args.place)
    (after (with_places rows c.args.ticket c.args.place four) (c.in_ok-add_four-in-Some.ensures.added before rows sees)))) (c.add_lines.ensures.added clean)

pub returns-in_err-add_four-in-Some-clause-cause : goal.returns-in_err-add_four-in-Some-clause-cause
returns-in_err-add_four-in-Some-clause-cause g t c clean inside endless rows sees allowed =
    let old = state g.S.Store c.args.tx.now.conn.now in
    let new = state g.S.Store c.add_four.new.tx.conn.now in
    let all = subst (λ lines. HasRoom (length lines) old × CanPlaceAll rows c.args.ticket c.args.place (map row_of_line lines)) c.in-Some.ensures allowed in
    from_err c.from_residual.result c.from_residual.ensures.1 (λ failure same. subst (IsExcused old new) (sym same)
    (c.in_err-add_four-in-Some.ensures.cause clean inside endless rows sees (room_less old 4 _ (omega arith) all.0, (all.1.0, (all.1.1.0, (all.1.1.1.0, (all.1.1.1.1.0, tt)))))))

pub returns-in_ok-add_four-in-Some-clause-room : goal.returns-in_ok-add_four-in-Some-clause-room
returns-in_ok-add_four-in-Some-clause-room g t c clean inside =
    let old = state g.S.Store c.args.tx.now.conn.now in
    let middle = state g.S.Store c.add_four.new.tx.conn.now in
    let new = state g.S.Store c.add_lines.new.tx.conn.now in
    let before = clean_before middle new c.add_lines.ensures.writes_if_any.crash clean in
    let it = c.in_ok-add_four-in-Some.ensures in
    let f = c.in-Some.four in
    let four = row_of_line f.first ∷ row_of_line f.second ∷ row_of_line f.third ∷ row_of_line f.fourth ∷ [] in
    let more = length f.rest.now in
    on_ok_weaker c.add_lines.result (λ takes rows sees n room.
    let count : n + length c.args.lines.now ≡ n + more + 4 = omega (arith, ap length c.in-Some.ensures) in
    takes (with_places rows c.args.ticket c.args.place four) (it.added before rows sees) n (it.room before inside rows sees (n + more) (subst (λ m. HasRoom m old) count room)))
    (c.add_lines.ensures.room clean (it.writes_inside.inside before inside))

pub returns-in_ok-add_four-in-Some-clause-cause : goal.returns-in_ok-add_four-in-Some-clause-cause
returns-in_ok-add_four-in-Some-clause-cause g t c clean inside endless rows sees allowed =
    let old = state g.S.Store c.args.tx.now.conn.now in
    let middle = state g.S.Store c.add_four.new.tx.conn.now in
    let new = state g.S.Store c.add_lines.new.tx.conn.now in
    let before = clean_before middle new c.add_lines.ensures.writes_if_any.crash clean in
    let it = c.in_ok-add_four-in-Some.ensures in
    let f = c.in-Some.four in
    let four = row_of_line f.first ∷ row_of_line f.second ∷ row_of_line f.third ∷ row_of_line f.fourth ∷ [] in
    let placed = with_places rows c.args.ticket c.args.place four in
    let all = subst (λ lines. HasRoom (length lines) old × CanPlaceAll rows c.args.ticket c.args.place (map row_of_line lines)) c.in-Some.ensures allowed in
    let room = it.room before inside rows sees (length f.rest.now) (room_less old (length f.rest.now + 4) _ (omega arith) all.0) in
    IfErr-weaker c.add_lines.result _ _ (excused_after old middle new it.writes_inside.crash.counts (it.writes_inside.still_open before))
    (c.add_lines.ensures.cause clean (it.writes_inside.inside before inside) (it.writes_inside.crash.limit ∙ endless) placed (it.added before rows sees)
    (room, subst (λ place. CanPlaceAll placed c.args.ticket place (map row_of_line f.rest.now)) (sym (four_on c.args.place)) all.1.1.1.1.1))
