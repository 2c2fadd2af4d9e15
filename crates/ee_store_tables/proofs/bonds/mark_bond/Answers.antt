use Rattle.ee_store_tables.specs.Statements.{IsExcused}
use Rattle.sqlite.specs.declared.types.Value.TheVariants.{Int}
use Rattle.ee_store_tables.proofs.BondLemmas.{key_params}
use Rattle.ee_store_tables.proofs.CauseLemmas.{from_err, write_excused}
use Rattle.ee_store_tables.proofs.AskLemmas.{writes_mark}
use Rattle.ee_store_tables.proofs.UpdateLemmas.{mark_bond_stays}
use Rattle.ee_store_tables.proofs.RoomLemmas.{room_marked}
use Rattle.std.proofs.Common.{ℕ, pos, [], ◌∷◌, None, refl, sym, ap, subst}
use Rattle.sqlite.specs.Held.{state}
use Rattle.ee_store_tables.proofs.Meaning.{mark_bond_text}
use Rattle.ee_store_tables.proofs.KeepLemmas.{inside_if_ok, writes_inside, fails_inside}
use Rattle.ee_store_tables.proofs.MarkLemmas.{marks}
use Rattle.ee_store_tables.specs.Tables.{others_in}
use Rattle.ee_store_tables.proofs.bonds.mark_bond.Goals as goal

pub returns-clause-marked : goal.returns-clause-marked
returns-clause-marked g c clean rows sees =
    let old = state g.S.Store c.args.tx.now.conn.now in
    let new = state g.S.Store c.execute.new.self.conn.now in
    let inside = inside_if_ok old.in_transaction c.execute.result c.in_ok-execute.field-0 c.in_ok-execute.was c.execute.ensures.ended in
    let it = c.in_ok-execute.ensures.runs clean inside in
    let ran = rw (c.whole.ensures, c.whole-2.ensures, c.whole-3.ensures) at it.0 in
    let first = sees it.1.was_open in
    let after = marks old new (c.args.serial.letter, c.args.serial.number) c.args.ticket c.in_ok-execute.field-0 first.0 ran in
    λ _. (after.0.tables, after.1 rows first.1)

pub returns-clause-writes_inside : goal.returns-clause-writes_inside
returns-clause-writes_inside g c =
    let old = state g.S.Store c.args.tx.now.conn.now in
    let new = state g.S.Store c.execute.new.self.conn.now in
    let inside = inside_if_ok old.in_transaction c.execute.result c.in_ok-execute.field-0 c.in_ok-execute.was c.execute.ensures.ended in
    writes_inside old new (λ clean. (c.in_ok-execute.ensures.runs clean inside).1) (λ clean inside_old.
    let it = c.in_ok-execute.ensures.runs clean inside in
    let ran = rw (c.whole.ensures, c.whole-2.ensures, c.whole-3.ensures) at it.0 in
    (marks old new (c.args.serial.letter, c.args.serial.number) c.args.ticket c.in_ok-execute.field-0 (inside_old it.1.was_open).1 ran).0)
    c.execute.ensures.survives

pub returns-in_err-execute-clause-writes_inside : goal.returns-in_err-execute-clause-writes_inside
returns-in_err-execute-clause-writes_inside g c =
    fails_inside (state g.S.Store c.args.tx.now.conn.now) (state g.S.Store c.execute.new.self.conn.now) _ mark_bond_text _ c.execute.result c.from_residual.result c.from_residual.ensures.1
    c.execute.ensures.runs (λ without. ap (state g.S.Store) (c.execute.ensures.ended without).1) c.execute.ensures.survives

pub returns-in_err-execute-clause-cause : goal.returns-in_err-execute-clause-cause
returns-in_err-execute-clause-cause g c clean inside endless rows sees allowed =
    let old = state g.S.Store c.args.tx.now.conn.now in
    let new = state g.S.Store c.execute.new.self.conn.now in
    let k : ℕ × ℕ = (c.args.serial.letter, c.args.serial.number) in
    let t = c.args.ticket in
    from_err c.from_residual.result c.from_residual.ensures.1 (λ failure same. subst (IsExcused old new) (sym same)
    (write_excused mark_bond_text (key_params k (Int (pos t) ∷ [])) None _ (writes_mark k t) old new 0 rows allowed sees
    (λ them stands unique room. mark_bond_stays k t (others_in old.now.schema) them old.now.trees rows stands unique room.0) inside endless refl c.in_err-execute.field-0.0
    (rw (c.whole.ensures, c.whole-2.ensures, c.whole-3.ensures) at (c.in_err-execute.ensures.runs clean))))

pub returns-clause-room : goal.returns-clause-room
returns-clause-room g c clean inside_old rows sees n room =
    let old = state g.S.Store c.args.tx.now.conn.now in
    let new = state g.S.Store c.execute.new.self.conn.now in
    let inside = inside_if_ok old.in_transaction c.execute.result c.in_ok-execute.field-0 c.in_ok-execute.was c.execute.ensures.ended in
    let it = c.in_ok-execute.ensures.runs clean inside in
    let ran = rw (c.whole.ensures, c.whole-2.ensures, c.whole-3.ensures) at it.0 in
    let first = sees it.1.was_open in
    let after = marks old new (c.args.serial.letter, c.args.serial.number) c.args.ticket c.in_ok-execute.field-0 first.0 ran in
    room_marked old new n after.3 after.2 (after.4 rows first.1) it.1.was_open room
