use Rattle.std.proofs.Common.{rules, ◌≡◌, map, length, ap, ◌∙◌, arith}
use Rattle.std.specs.Prelude.{Ok, Err, Result, IfOk}
use Rattle.std.specs.List.{sum_by}
use Rattle.sqlite.specs.Held.{state}
use Rattle.ee_desk_model.specs.PlainBooks.{of_day}
use Rattle.ee_desk_decide.specs.declared.views.DayCounts.{DayCounts}
use Rattle.ee_store_tables.specs.declared.records.TicketSum.{TicketSum}
use Rattle.ee_store_tables.specs.AsRows.{sum_of}
use Rattle.ee_store_tables.specs.Rows.{tickets_on}
use Rattle.std.proofs.lemmas.Result.{IfOk-weaker}
use Rattle.ee_store_books.specs.Standing.{rows_of}
use Rattle.ee_store_books.proofs.ByKeys.{always}
use Rattle.ee_store_books.proofs.DaySums.{sums_on, sums_length, sums_bonds, sums_total}
use Rattle.ee_store_books.proofs.HandedOn.{statement_failed}
use Rattle.ee_desk_model.proofs.Lemmas.Books.{few_bonds_on, small_total_on}
use Rattle.ee_store_books.proofs.Causes.{served, unchanged_rows}
use Rattle.ee_store_books.proofs.ticket_counts.day_in.Goals as goal

all_three : {E : Type 0} (P Q R : DayCounts → Type 0) (r : Result DayCounts E) → IfOk r P → IfOk r Q → IfOk r R → IfOk r (λ x. P x × Q x × R x)
all_three P Q R (Ok x) p q r = (p, q, r)
all_three P Q R (Err e) p q r = tt

pub returns-clause-found : goal.returns-clause-found
returns-clause-found g c clean inside =
    let own : c.as_slice-all.result.now ≡ c.in_ok-sums.sums.items = search rules in
    IfOk-weaker c.counts_of.result _ _ (λ counts is S sees.
    let found = own ∙ c.in_ok-sums.ensures.found clean (rows_of S) sees.rows ∙ ap (λ day. map sum_of (tickets_on (rows_of S) day)) c.count.ensures.value ∙ sums_on S c.args.day sees.right in
    let tickets = of_day c.args.day S.books.tickets in (
      is.0 ∙ ap length found ∙ sums_length tickets,
      is.1 ∙ ap (sum_by (λ (s : TicketSum). s.bonds)) found ∙ sums_bonds tickets,
      is.2 ∙ ap (sum_by (λ (s : TicketSum). s.total)) found ∙ sums_total tickets,
    ))
    (all_three _ _ _ c.counts_of.result c.counts_of.ensures.tickets c.counts_of.ensures.bonds c.counts_of.ensures.total)

pub returns-clause-only_reads : goal.returns-clause-only_reads
returns-clause-only_reads g c = record {
  still_open = search rules;
  inside = search rules;
  rows = λ clean inside.
      always c.counts_of.result (λ rows sees. unchanged_rows (state g.S.Store c.args.tx.now.conn.now) (state g.S.Store c.day_tickets.new.tx.conn.now) (c.in_ok-sums.ensures.only_queries.same clean inside) rows sees);
  commit = search rules;
  crash = search rules;
}

pub returns-in_err-sums-clause-cause : goal.returns-in_err-sums-clause-cause
returns-in_err-sums-clause-cause g c clean inside unlimited S sees any =
    let old = state g.S.Store c.args.tx.now.conn.now in
    let new = state g.S.Store c.day_tickets.new.tx.conn.now in
    statement_failed old new c.from_residual.result c.in_err-sums.field-0.0 c.from_residual.ensures.1 (c.in_err-sums.ensures.cause clean inside unlimited (rows_of S) sees.rows tt)

pub returns-clause-cause : goal.returns-clause-cause
returns-clause-cause g c clean inside unlimited S sees any =
    let own : c.as_slice-all.result.now ≡ c.in_ok-sums.sums.items = search rules in
    let found = own ∙ c.in_ok-sums.ensures.found clean (rows_of S) sees.rows ∙ ap (λ day. map sum_of (tickets_on (rows_of S) day)) c.count.ensures.value ∙ sums_on S c.args.day sees.right in
    let tickets = of_day c.args.day S.books.tickets in
    let bonds = ap (sum_by (λ (s : TicketSum). s.bonds)) found ∙ sums_bonds tickets in
    let total = ap (sum_by (λ (s : TicketSum). s.total)) found ∙ sums_total tickets in
    let few = few_bonds_on S.books sees.right.sound c.args.day in
    let small = small_total_on S.books sees.right.sound c.args.day in
    served _ c.counts_of.result (c.counts_of.ensures.fits (omega (arith, bonds, few)) (omega (arith, total, small)))
