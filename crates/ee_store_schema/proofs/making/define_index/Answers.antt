use Rattle.std.proofs.Common.{rules}
use Rattle.sqlite.specs.Held.{state}
use Rattle.ee_store_tables.proofs.Lemmas.Transactions.{inside_if_ok}
use Rattle.ee_store_schema.proofs.DefineLemmas.{adds_index}
use Rattle.ee_store_schema.proofs.Lemmas.Faults.{told_as}
use Rattle.ee_store_schema.proofs.MakeUsable.{within_or_ended, adds_index_usable}
use Rattle.ee_store_schema.specs.Faults.{IsExcused}
use Rattle.ee_store_schema.proofs.Lemmas.Causes.{excused_if_open}
use Rattle.ee_store_schema.proofs.MakeCause.{index_excused}
use Rattle.ee_store_schema.proofs.making.define_index.Goals as goal

pub returns-clause-added : goal.returns-clause-added
returns-clause-added g c clean before after adds sees =
    let old = state g.S.Store c.args.tx.now.conn.now in
    let new = state g.S.Store c.execute.new.self.conn.now in
    let inside = inside_if_ok old.in_transaction c.execute.result c.in_ok-execute.field-0 c.in_ok-execute.was c.execute.ensures.ended in
    let it = c.in_ok-execute.ensures.runs clean inside in
    λ _. adds_index old new c.args.sql.now c.in_ok-execute.field-0 before after adds (sees it.1.was_open) it.0

pub returns-in_err-execute-clause-usable : goal.returns-in_err-execute-clause-usable
returns-in_err-execute-clause-usable g c clean =
    let old = state g.S.Store c.args.tx.now.conn.now in
    let new = state g.S.Store c.execute.new.self.conn.now in
    told_as _ c.from_residual.result c.in_err-execute.field-0.0 c.from_residual.ensures.1 (λ before after adds sees is_open.
    within_or_ended old.in_transaction c.in_err-execute.field-0.0 (λ inside. adds_index_usable old new c.args.sql.now c.in_err-execute.field-0.0 before after adds (sees is_open).0 (c.in_err-execute.ensures.runs clean inside)) (λ outside. (c.in_err-execute.ensures.ended outside).0))

pub returns-clause-makes_inside : goal.returns-clause-makes_inside
returns-clause-makes_inside g c = record {
  still_open = search rules;
  inside = λ clean.
      let old = state g.S.Store c.args.tx.now.conn.now in
      let inside = inside_if_ok old.in_transaction c.execute.result c.in_ok-execute.field-0 c.in_ok-execute.was c.execute.ensures.ended in
      (c.in_ok-execute.ensures.runs clean inside).1.mode;
  other = tt;
  commit = search rules;
  crash = c.execute.ensures.survives;
}

pub returns-in_err-execute-clause-cause : goal.returns-in_err-execute-clause-cause
returns-in_err-execute-clause-cause g c before after adds takes clean amid limit =
    let old = state g.S.Store c.args.tx.now.conn.now in
    let new = state g.S.Store c.execute.new.self.conn.now in
    told_as (IsExcused old new) c.from_residual.result c.in_err-execute.field-0.0 c.from_residual.ensures.1 (excused_if_open old new _ (λ is_open.
    index_excused old new c.args.sql.now c.in_err-execute.field-0.0 before after adds c.utf8.sql takes (amid.1 is_open).0 (amid.1 is_open).1 (c.in_err-execute.ensures.runs clean amid.0)))
