use Rattle.std.proofs.Common.{length, map, sym, ap, subst, arith, ◌∙◌}
use Rattle.std.proofs.lemmas.List.{nil_from_length}
use Rattle.std.proofs.lemmas.List.Elements.{All-rest}
use Rattle.std.proofs.lemmas.Result.{on_ok_weaker, IfErr-weaker}
use Rattle.sqlite.specs.Held.{state}
use Rattle.ee_store_tables.specs.AsRows.{FitsLine, row_of_line}
use Rattle.ee_store_tables.specs.Rows.{Sees, marked}
use Rattle.ee_store_tables.specs.Inner.Places.{all_marked}
use Rattle.ee_store_tables.proofs.CauseLemmas.{excused_after}
use Rattle.ee_store_tables.proofs.KeepLemmas.{clean_before}
use Rattle.ee_store_tables.proofs.lines.+mark_lines.Goals as goal

pub returns-in_ok-mark_bond-in-Some-clause-marked : goal.returns-in_ok-mark_bond-in-Some-clause-marked
returns-in_ok-mark_bond-in-Some-clause-marked g t c clean =
    let new = state g.S.Store c.mark_lines.new.tx.conn.now in
    let before = clean_before (state g.S.Store c.mark_bond.new.tx.conn.now) new c.mark_lines.ensures.writes_if_any.crash clean in
    on_ok_weaker c.mark_lines.result (λ after rows sees. subst (λ lines. Sees new (all_marked rows c.args.ticket (map row_of_line lines))) (sym c.in-Some.ensures.cases.0)
    (after (marked rows (c.in-Some.line.now.letter, c.in-Some.line.now.number) c.args.ticket) (c.in_ok-mark_bond-in-Some.ensures.marked before rows sees))) (c.mark_lines.ensures.marked clean)

pub returns-in-None-clause-marked : goal.returns-in-None-clause-marked
returns-in-None-clause-marked g t c clean rows sees =
    subst (λ lines. Sees (state g.S.Store c.args.tx.now.conn.now) (all_marked rows c.args.ticket (map row_of_line lines))) (sym (nil_from_length c.args.lines.now c.in-None.ensures.cases)) sees

pub mark_lines-requires : goal.mark_lines-requires
mark_lines-requires g t c κs within =
    let count = ap length c.in-Some.ensures.cases.0 in
    (omega (arith, c.decreases, count), (within, (c.requires.ticket, All-rest FitsLine c.in-Some.line.now c.in-Some.rest.now c.args.lines.now c.in-Some.ensures.cases.0 c.requires.lines)))

pub returns-in_ok-mark_bond-in-Some-clause-room : goal.returns-in_ok-mark_bond-in-Some-clause-room
returns-in_ok-mark_bond-in-Some-clause-room g t c clean inside =
    let middle = state g.S.Store c.mark_bond.new.tx.conn.now in
    let new = state g.S.Store c.mark_lines.new.tx.conn.now in
    let before = clean_before middle new c.mark_lines.ensures.writes_if_any.crash clean in
    let it = c.in_ok-mark_bond-in-Some.ensures in
    on_ok_weaker c.mark_lines.result (λ keeps rows sees n room. keeps (marked rows (c.in-Some.line.now.letter, c.in-Some.line.now.number) c.args.ticket) (it.marked before rows sees) n (it.room before inside rows sees n room))
    (c.mark_lines.ensures.room clean (it.writes_inside.inside before inside))

pub returns-in_ok-mark_bond-in-Some-clause-cause : goal.returns-in_ok-mark_bond-in-Some-clause-cause
returns-in_ok-mark_bond-in-Some-clause-cause g t c clean inside endless rows sees allowed =
    let old = state g.S.Store c.args.tx.now.conn.now in
    let middle = state g.S.Store c.mark_bond.new.tx.conn.now in
    let new = state g.S.Store c.mark_lines.new.tx.conn.now in
    let before = clean_before middle new c.mark_lines.ensures.writes_if_any.crash clean in
    let it = c.in_ok-mark_bond-in-Some.ensures in
    IfErr-weaker c.mark_lines.result _ _ (excused_after old middle new it.writes_inside.crash.counts (it.writes_inside.still_open before))
    (c.mark_lines.ensures.cause clean (it.writes_inside.inside before inside) (it.writes_inside.crash.limit ∙ endless) (marked rows (c.in-Some.line.now.letter, c.in-Some.line.now.number) c.args.ticket) (it.marked before rows sees) (it.room before inside rows sees 0 allowed))
