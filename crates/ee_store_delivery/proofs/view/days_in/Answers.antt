use Rattle.std.proofs.Common.{rules, ◌∙◌}
use Rattle.sqlite.specs.Held.{state}
use Rattle.std.proofs.lemmas.Result.{IfOk-weaker}
use Rattle.ee_store_books.proofs.Lemmas.Contents.{get_desk_row, days_in_range}
use Rattle.ee_store_books.specs.Standing.{rows_of}
use Rattle.ee_store_books.proofs.Lemmas.Lookups.{always, statement_failed, served, unchanged_rows}
use Rattle.ee_store_delivery.proofs.view.days_in.Goals as goal

pub returns-clause-found : goal.returns-clause-found
returns-clause-found g c clean inside =
    IfOk-weaker c.days_shown.result _ _ (λ days shown S sees.
    shown (record { version = 2; day = S.books.day; last_day = S.books.last_day }) (c.in_ok-found.ensures.found clean (rows_of S) sees.rows ∙ get_desk_row 2 S.books.day S.books.last_day))
    c.days_shown.ensures.value

pub returns-clause-only_reads : goal.returns-clause-only_reads
returns-clause-only_reads g c = record {
  still_open = search rules;
  inside = search rules;
  rows = λ clean inside.
      always c.days_shown.result (λ rows sees. unchanged_rows (state g.S.Store c.args.tx.now.conn.now) (state g.S.Store c.find_desk.new.tx.conn.now) (c.in_ok-found.ensures.only_queries.same clean inside) rows sees);
  commit = search rules;
  crash = search rules;
}

pub returns-in_err-found-clause-cause : goal.returns-in_err-found-clause-cause
returns-in_err-found-clause-cause g c clean inside unlimited S sees any =
    let old = state g.S.Store c.args.tx.now.conn.now in
    let new = state g.S.Store c.find_desk.new.tx.conn.now in
    statement_failed old new c.from_residual.result c.in_err-found.field-0.0 c.from_residual.ensures.1 (c.in_err-found.ensures.cause clean inside unlimited (rows_of S) sees.rows tt)

pub returns-clause-cause : goal.returns-clause-cause
returns-clause-cause g c clean inside unlimited S sees any =
    let fits = days_in_range S.books sees.right.sound in
    served _ c.days_shown.result
    (c.days_shown.ensures.read (record { version = 2; day = S.books.day; last_day = S.books.last_day }) (c.in_ok-found.ensures.found clean (rows_of S) sees.rows ∙ get_desk_row 2 S.books.day S.books.last_day) fits.0 fits.1)
