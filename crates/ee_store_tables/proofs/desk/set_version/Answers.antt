use Rattle.std.proofs.Common.{None, refl, sym, subst, arith}
use Rattle.sqlite.specs.Held.{state}
use Rattle.ee_store_tables.specs.Statements.{IsExcused}
use Rattle.ee_store_tables.proofs.Meaning.{set_version_text}
use Rattle.ee_store_tables.proofs.CauseLemmas.{from_err, stays_excused, unique_in}
use Rattle.ee_store_tables.proofs.AskLemmas.{writes_version}
use Rattle.ee_store_tables.proofs.UpdateLemmas.{set_version_stays}
use Rattle.ee_store_tables.proofs.KeepLemmas.{inside_if_ok, still_inside}
use Rattle.ee_store_tables.proofs.VersionLemmas.{given_version, sets_version}
use Rattle.ee_store_tables.proofs.RoomLemmas.{room_beside}
use Rattle.ee_store_tables.specs.Tables.{others_in}
use Rattle.ee_store_tables.proofs.desk.set_version.Goals as goal

pub returns-clause-set : goal.returns-clause-set
returns-clause-set g c clean rows sees =
    let old = state g.S.Store c.args.tx.now.conn.now in
    let new = state g.S.Store c.execute.new.self.conn.now in
    let inside = inside_if_ok old.in_transaction c.execute.result c.in_ok-execute.field-0 c.in_ok-execute.was c.execute.ensures.ended in
    let it = c.in_ok-execute.ensures.runs clean inside in
    let ran = rw (c.whole.ensures, c.whole-2.ensures) at it.0 in
    let first = sees it.1.was_open in
    let after = sets_version old new c.args.version c.in_ok-execute.field-0 first.0 ran in
    λ _. (after.0.tables, after.1 rows first.1)

pub returns-clause-inside : goal.returns-clause-inside
returns-clause-inside g c clean inside_old =
    let old = state g.S.Store c.args.tx.now.conn.now in
    let new = state g.S.Store c.execute.new.self.conn.now in
    let inside = inside_if_ok old.in_transaction c.execute.result c.in_ok-execute.field-0 c.in_ok-execute.was c.execute.ensures.ended in
    let it = c.in_ok-execute.ensures.runs clean inside in
    let ran = rw (c.whole.ensures, c.whole-2.ensures) at it.0 in
    still_inside old new it.1 inside_old (sets_version old new c.args.version c.in_ok-execute.field-0 (inside_old it.1.was_open).1 ran).0

pub returns-clause-sound : goal.returns-clause-sound
returns-clause-sound g c clean inside_old =
    let old = state g.S.Store c.args.tx.now.conn.now in
    let new = state g.S.Store c.execute.new.self.conn.now in
    let inside = inside_if_ok old.in_transaction c.execute.result c.in_ok-execute.field-0 c.in_ok-execute.was c.execute.ensures.ended in
    let it = c.in_ok-execute.ensures.runs clean inside in
    let ran = rw (c.whole.ensures, c.whole-2.ensures) at it.0 in
    λ _. (sets_version old new c.args.version c.in_ok-execute.field-0 (inside_old it.1.was_open).1 ran).2

pub returns-clause-room : goal.returns-clause-room
returns-clause-room g c clean inside_old rows sees n room =
    let old = state g.S.Store c.args.tx.now.conn.now in
    let new = state g.S.Store c.execute.new.self.conn.now in
    let inside = inside_if_ok old.in_transaction c.execute.result c.in_ok-execute.field-0 c.in_ok-execute.was c.execute.ensures.ended in
    let it = c.in_ok-execute.ensures.runs clean inside in
    let ran = rw (c.whole.ensures, c.whole-2.ensures) at it.0 in
    let after = sets_version old new c.args.version c.in_ok-execute.field-0 (inside_old it.1.was_open).1 ran in
    room_beside old new 0 n (λ e. omega (arith, e)) (λ e. omega (arith, e)) (λ e. omega (arith, e)) after.3 after.2 it.1.was_open room

pub returns-in_err-execute-clause-cause : goal.returns-in_err-execute-clause-cause
returns-in_err-execute-clause-cause g c clean inside endless rows sees sound =
    let old = state g.S.Store c.args.tx.now.conn.now in
    let new = state g.S.Store c.execute.new.self.conn.now in
    from_err c.from_residual.result c.from_residual.ensures.1 (λ failure same. subst (IsExcused old new) (sym same)
    (stays_excused set_version_text (given_version c.args.version) None _ (writes_version c.args.version) old new inside endless (λ is_open.
    let seen = sees is_open in
    set_version_stays c.args.version (others_in old.now.schema) seen.0.others old.now.trees rows seen.1 (unique_in old seen.0 (sound is_open))) refl c.in_err-execute.field-0.0
    (rw (c.whole.ensures, c.whole-2.ensures) at (c.in_err-execute.ensures.runs clean))))
