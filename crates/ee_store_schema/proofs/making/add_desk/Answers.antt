use Rattle.std.proofs.Common.{rules}
use Rattle.sqlite.specs.Held.{state}
use Rattle.ee_store_tables.proofs.Lemmas.Transactions.{inside_if_ok}
use Rattle.ee_store_tables.proofs.Lemmas.Others.{ours_alone}
use Rattle.ee_store_schema.proofs.FirstLemmas.{adds_first, first_sound}
use Rattle.ee_store_schema.proofs.Lemmas.Faults.{told_as}
use Rattle.ee_store_schema.proofs.MakeUsable.{within_or_ended, adds_desk_usable}
use Rattle.ee_store_schema.specs.Faults.{IsExcused}
use Rattle.ee_store_schema.proofs.Lemmas.Causes.{excused_if_open}
use Rattle.ee_store_schema.proofs.FirstCause.{desk_excused}
use Rattle.ee_store_schema.proofs.making.add_desk.Goals as goal

pub returns-clause-added : goal.returns-clause-added
returns-clause-added g c clean sees =
    let old = state g.S.Store c.args.tx.now.conn.now in
    let new = state g.S.Store c.execute.new.self.conn.now in
    let inside = inside_if_ok old.in_transaction c.execute.result c.in_ok-execute.field-0 c.in_ok-execute.was c.execute.ensures.ended in
    let it = c.in_ok-execute.ensures.runs clean inside in
    let before = sees it.1.was_open in
    let after = adds_first old new c.in_ok-execute.field-0 before.0 before.1 it.0 in
    λ _. (ours_alone new.now.schema after.0, after.1)

pub returns-in_err-execute-clause-usable : goal.returns-in_err-execute-clause-usable
returns-in_err-execute-clause-usable g c clean =
    let old = state g.S.Store c.args.tx.now.conn.now in
    let new = state g.S.Store c.execute.new.self.conn.now in
    told_as _ c.from_residual.result c.in_err-execute.field-0.0 c.from_residual.ensures.1 (λ sees is_open.
    within_or_ended old.in_transaction c.in_err-execute.field-0.0 (λ inside. adds_desk_usable old new c.in_err-execute.field-0.0 (sees is_open).0 (c.in_err-execute.ensures.runs clean inside)) (λ outside. (c.in_err-execute.ensures.ended outside).0))

pub returns-clause-sound : goal.returns-clause-sound
returns-clause-sound g c clean sees =
    let old = state g.S.Store c.args.tx.now.conn.now in
    let new = state g.S.Store c.execute.new.self.conn.now in
    let inside = inside_if_ok old.in_transaction c.execute.result c.in_ok-execute.field-0 c.in_ok-execute.was c.execute.ensures.ended in
    let it = c.in_ok-execute.ensures.runs clean inside in
    λ _. first_sound old new c.in_ok-execute.field-0 (sees it.1.was_open).0 it.0

pub returns-clause-makes_inside : goal.returns-clause-makes_inside
returns-clause-makes_inside g c = record {
  still_open = search rules;
  inside = λ clean.
      let old = state g.S.Store c.args.tx.now.conn.now in
      let inside = inside_if_ok old.in_transaction c.execute.result c.in_ok-execute.field-0 c.in_ok-execute.was c.execute.ensures.ended in
      (c.in_ok-execute.ensures.runs clean inside).1.mode;
  other = tt;
  commit = search rules;
  crash = c.execute.ensures.survives;
}

pub returns-in_err-execute-clause-cause : goal.returns-in_err-execute-clause-cause
returns-in_err-execute-clause-cause g c clean amid limit =
    let old = state g.S.Store c.args.tx.now.conn.now in
    let new = state g.S.Store c.execute.new.self.conn.now in
    told_as (IsExcused old new) c.from_residual.result c.in_err-execute.field-0.0 c.from_residual.ensures.1 (excused_if_open old new _ (λ is_open.
    desk_excused old new c.in_err-execute.field-0.0 limit (amid.1 is_open).0 (amid.1 is_open).1 (c.in_err-execute.ensures.runs clean amid.0)))
