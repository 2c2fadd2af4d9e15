use Rattle.std.proofs.Common.{rules, ◌∙◌}
use Rattle.std.specs.FinMap as finite
use Rattle.sqlite.specs.Held.{state}
use Rattle.std.proofs.lemmas.Result.{IfOk-weaker}
use Rattle.ee_store_books.specs.Standing.{rows_of}
use Rattle.ee_store_books.proofs.ByKeys.{held_found, always, held_row, held_fits}
use Rattle.ee_store_books.proofs.HandedOn.{statement_failed}
use Rattle.ee_desk_model.specs.Seen.{held_of}
use Rattle.ee_store_books.proofs.Causes.{served, unchanged_rows}
use Rattle.ee_store_books.proofs.held_bonds.find_held.Goals as goal

pub returns-clause-found : goal.returns-clause-found
returns-clause-found g c clean inside =
    IfOk-weaker c.held_shown.result _ _ (λ held shown content sees.
    held_found content c.args.serial held sees.right shown.1
    (shown.0 ∙ c.in_ok-found.ensures.found clean (rows_of content) sees.rows
    ∙ (λ i. finite.get (rows_of content).bonds (c.letter.ensures.value i, c.number.ensures.value i))))
    c.held_shown.ensures.shown

pub returns-clause-only_reads : goal.returns-clause-only_reads
returns-clause-only_reads g c = record {
  still_open = search rules;
  inside = search rules;
  rows = λ clean inside.
      always c.held_shown.result (λ rows sees. unchanged_rows (state g.S.Store c.args.tx.now.conn.now) (state g.S.Store c.find_bond.new.tx.conn.now) (c.in_ok-found.ensures.only_queries.same clean inside) rows sees);
  commit = search rules;
  crash = search rules;
}

pub returns-in_err-found-clause-cause : goal.returns-in_err-found-clause-cause
returns-in_err-found-clause-cause g c clean inside unlimited S sees any =
    let old = state g.S.Store c.args.tx.now.conn.now in
    let new = state g.S.Store c.find_bond.new.tx.conn.now in
    statement_failed old new c.from_residual.result c.in_err-found.field-0.0 c.from_residual.ensures.1 (c.in_err-found.ensures.cause clean inside unlimited (rows_of S) sees.rows tt)

pub returns-clause-cause : goal.returns-clause-cause
returns-clause-cause g c clean inside unlimited S sees any =
    served _ c.held_shown.result
    (c.held_shown.ensures.read (held_of S.books c.args.serial)
    (c.in_ok-found.ensures.found clean (rows_of S) sees.rows ∙ (λ i. finite.get (rows_of S).bonds (c.letter.ensures.value i, c.number.ensures.value i)) ∙ held_row S c.args.serial)
    (held_fits S c.args.serial sees.right))
