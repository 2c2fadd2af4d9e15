use Rattle.std.proofs.Common.{rules, ◌≡◌, ap, ◌∙◌}
use Rattle.std.specs.List.{filter_map}
use Rattle.std.specs.FinMap as finite
use Rattle.std.specs.FinMap.{FinMap}
use Rattle.std.specs.Ordering.{nat_cmp}
use Rattle.ee_value.specs.declared.rates.Rates.{Rates}
use Rattle.ee_desk_model.specs.Queries.{row_of}
use Rattle.ee_desk_model.specs.Views.{picked}
use Rattle.ee_store_queries.proofs.FoundRows.{rows_found}
use Rattle.ee_store_queries.proofs.queries.rows_in.Goals as goal

pub returns-clause-found : goal.returns-clause-found
returns-clause-found g c clean inside S sees =
    let asked : c.as_slice-asked.result.now ≡ c.in_ok-periods.periods.items = search rules in
    let terms = c.in_ok-terms.ensures.found clean inside S sees ∙ ap (picked (finite.get S.books.rates)) asked in
    c.in_ok-rows.ensures
    ∙ ap (λ (rates : FinMap nat_cmp Rates). filter_map (row_of rates c.args.month) c.args.bonds.now) terms
    ∙ rows_found S.books.rates c.in_ok-periods.periods.items c.args.month c.args.bonds.now c.in_ok-periods.ensures
