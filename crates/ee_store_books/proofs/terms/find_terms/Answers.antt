use Rattle.std.proofs.Common.{rules, ◌∙◌}
use Rattle.std.specs.FinMap as finite
use Rattle.sqlite.specs.Held.{state}
use Rattle.std.proofs.lemmas.Result.{IfOk-weaker}
use Rattle.ee_store_books.proofs.ByKeys.{rates_found, always}
use Rattle.ee_store_books.proofs.HandedOn.{memory_alone, rates_right, rates_read}
use Rattle.ee_store_books.proofs.terms.find_terms.Goals as goal

pub returns-clause-found : goal.returns-clause-found
returns-clause-found g c clean inside =
    IfOk-weaker c.terms_shown.result _ _ (λ terms shown content sees.
    let is = c.in_ok-found.ensures.found clean inside content sees in
    shown ∙ rates_found (finite.get content.books.rates c.args.period) c.in_ok-found.found.0 c.in_ok-found.found.1 is.0 is.1)
    c.terms_shown.ensures.value

pub returns-clause-only_reads : goal.returns-clause-only_reads
returns-clause-only_reads g c = record {
  still_open = search rules;
  inside = search rules;
  rows = λ clean inside. always c.terms_shown.result (c.in_ok-found.ensures.only_reads.rows clean inside);
  commit = search rules;
  crash = search rules;
}

pub returns-clause-cause : goal.returns-clause-cause
returns-clause-cause g c clean inside endless S sees _ =
    let is = c.in_ok-found.ensures.found clean inside S sees in
    memory_alone (state g.S.Store c.args.tx.now.conn.now) (state g.S.Store c.find_rates.new.tx.conn.now) c.terms_shown.result
    (c.terms_shown.ensures.read
    (rates_read (finite.get S.books.rates c.args.period) c.in_ok-found.found.0 c.in_ok-found.found.1 is.0 is.1 (rates_right S c.args.period sees.right)))
