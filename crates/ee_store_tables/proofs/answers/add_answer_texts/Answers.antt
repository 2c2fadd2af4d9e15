use Rattle.std.proofs.Common.{ℕ, None, refl, sym, subst}
use Rattle.ee_store_tables.specs.Rows.{ReplyRow, Rises}
use Rattle.ee_store_tables.specs.Statements.{IsExcused}
use Rattle.ee_store_tables.proofs.Meaning.{add_answer_text}
use Rattle.ee_store_tables.proofs.CauseLemmas.{from_err, stays_excused, unique_in}
use Rattle.ee_store_tables.proofs.AskLemmas.{writes_answer}
use Rattle.ee_store_tables.proofs.InsertLemmas.{add_answer_stays}
use Rattle.ee_store_tables.proofs.RoomLemmas.{room_answer, room_put}
use Rattle.sqlite.specs.Held.{state}
use Rattle.ee_store_tables.proofs.KeepLemmas.{inside_if_ok, still_inside}
use Rattle.ee_store_tables.proofs.AnswerLemmas.{given_answer, adds_answer}
use Rattle.ee_store_tables.specs.Tables.{others_in}
use Rattle.ee_store_tables.proofs.answers.add_answer_texts.Goals as goal

pub returns-clause-added : goal.returns-clause-added
returns-clause-added g c clean rows sees =
    let old = state g.S.Store c.args.tx.now.conn.now in
    let new = state g.S.Store c.execute.new.self.conn.now in
    let inside = inside_if_ok old.in_transaction c.execute.result c.in_ok-execute.field-0 c.in_ok-execute.was c.execute.ensures.ended in
    let it = c.in_ok-execute.ensures.runs clean inside in
    let ran = rw (c.whole.ensures, c.whole-2.ensures, c.to_sql.ensures, c.to_sql-2.ensures) at it.0 in
    let first = sees it.1.was_open in
    let after = adds_answer old new (c.args.desk, c.args.number) (record { act = c.args.act.now; reply = c.args.reply.now }) c.in_ok-execute.field-0 first.0 ran in
    λ _. (after.0.tables, after.1 rows first.1)

pub returns-clause-inside : goal.returns-clause-inside
returns-clause-inside g c clean inside_old =
    let old = state g.S.Store c.args.tx.now.conn.now in
    let new = state g.S.Store c.execute.new.self.conn.now in
    let inside = inside_if_ok old.in_transaction c.execute.result c.in_ok-execute.field-0 c.in_ok-execute.was c.execute.ensures.ended in
    let it = c.in_ok-execute.ensures.runs clean inside in
    let ran = rw (c.whole.ensures, c.whole-2.ensures, c.to_sql.ensures, c.to_sql-2.ensures) at it.0 in
    still_inside old new it.1 inside_old (adds_answer old new (c.args.desk, c.args.number) (record { act = c.args.act.now; reply = c.args.reply.now }) c.in_ok-execute.field-0 (inside_old it.1.was_open).1 ran).0

pub returns-clause-sound : goal.returns-clause-sound
returns-clause-sound g c clean inside_old =
    let old = state g.S.Store c.args.tx.now.conn.now in
    let new = state g.S.Store c.execute.new.self.conn.now in
    let inside = inside_if_ok old.in_transaction c.execute.result c.in_ok-execute.field-0 c.in_ok-execute.was c.execute.ensures.ended in
    let it = c.in_ok-execute.ensures.runs clean inside in
    let ran = rw (c.whole.ensures, c.whole-2.ensures, c.to_sql.ensures, c.to_sql-2.ensures) at it.0 in
    λ _. (adds_answer old new (c.args.desk, c.args.number) (record { act = c.args.act.now; reply = c.args.reply.now }) c.in_ok-execute.field-0 (inside_old it.1.was_open).1 ran).2

pub returns-in_err-execute-clause-cause : goal.returns-in_err-execute-clause-cause
returns-in_err-execute-clause-cause g c clean inside endless rows sees allowed =
    let old = state g.S.Store c.args.tx.now.conn.now in
    let new = state g.S.Store c.execute.new.self.conn.now in
    let k : ℕ × ℕ = (c.args.desk, c.args.number) in
    let x : ReplyRow = record { act = c.args.act.now; reply = c.args.reply.now } in
    from_err c.from_residual.result c.from_residual.ensures.1 (λ failure same. subst (IsExcused old new) (sym same)
    (stays_excused add_answer_text (given_answer k x) None _ (writes_answer k x) old new inside endless (λ is_open.
    let seen = sees is_open in
    let fits = allowed.0 is_open in
    add_answer_stays (others_in old.now.schema) seen.0.others old.now.trees rows seen.1 (unique_in old seen.0 fits.0) fits.1 k x allowed.1 allowed.2) refl c.in_err-execute.field-0.0
    (rw (c.whole.ensures, c.whole-2.ensures, c.to_sql.ensures, c.to_sql-2.ensures) at (c.in_err-execute.ensures.runs clean))))

pub returns-clause-room : goal.returns-clause-room
returns-clause-room g c clean inside_old rows sees n room =
    let old = state g.S.Store c.args.tx.now.conn.now in
    let new = state g.S.Store c.execute.new.self.conn.now in
    let inside = inside_if_ok old.in_transaction c.execute.result c.in_ok-execute.field-0 c.in_ok-execute.was c.execute.ensures.ended in
    let it = c.in_ok-execute.ensures.runs clean inside in
    let ran = rw (c.whole.ensures, c.whole-2.ensures, c.to_sql.ensures, c.to_sql-2.ensures) at it.0 in
    let after = adds_answer old new (c.args.desk, c.args.number) (record { act = c.args.act.now; reply = c.args.reply.now }) c.in_ok-execute.field-0 (inside_old it.1.was_open).1 ran in
    room_answer old new n _ refl after.3 after.4 after.2 it.1.was_open room

pub returns-clause-rises : goal.returns-clause-rises
returns-clause-rises g c clean inside_old n room =
    let old = state g.S.Store c.args.tx.now.conn.now in
    let new = state g.S.Store c.execute.new.self.conn.now in
    let inside = inside_if_ok old.in_transaction c.execute.result c.in_ok-execute.field-0 c.in_ok-execute.was c.execute.ensures.ended in
    let it = c.in_ok-execute.ensures.runs clean inside in
    let ran = rw (c.whole.ensures, c.whole-2.ensures, c.to_sql.ensures, c.to_sql-2.ensures) at it.0 in
    let after = adds_answer old new (c.args.desk, c.args.number) (record { act = c.args.act.now; reply = c.args.reply.now }) c.in_ok-execute.field-0 (inside_old it.1.was_open).1 ran in
    λ _. subst (Rises 1 n) (sym after.4) (room_put n (old.now.trees 13) _ refl room)
