use Rattle.std.proofs.Common.{max, sym, ◌∙◌, ap, arith}
use Rattle.ee_value.specs.Rounding.{grown}
use Rattle.ee_value.specs.Chain.{start}
use Rattle.ee_value.proofs.Starts.{start-le, start-ge, start-at_20_years, start-else}
use Rattle.ee_value.proofs.halves.next_start.Goals as goal

pub next_unit-grown-requires-clause-some : goal.next_unit-grown-requires-clause-some
next_unit-grown-requires-clause-some c =
    omega (arith, c.requires.begun, start-ge c.args.rates.now c.args.half_year c.rate_in.ensures.range)

pub next_unit-grown-requires-clause-small : goal.next_unit-grown-requires-clause-small
next_unit-grown-requires-clause-small c =
    omega (arith, c.requires.begun, start-le c.args.rates.now c.args.half_year c.rate_in.ensures.range (omega arith))

pub returns-then-half_year-eq-ORIGINAL_MATURITY : goal.returns-then-half_year-eq-ORIGINAL_MATURITY
returns-then-half_year-eq-ORIGINAL_MATURITY c =
    c.max.ensures ∙ ap (λ u. max u 2500) (c.next_unit-grown.ensures ∙ ap (λ u. grown u c.rate_in.result 6) c.requires.begun
    ∙ ap (λ r. grown (start c.args.rates.now c.args.half_year) r 6) c.rate_in.ensures.value)
    ∙ sym (start-at_20_years c.args.rates.now c.args.half_year c.if-half_year-eq-ORIGINAL_MATURITY.true)

pub returns-else-half_year-eq-ORIGINAL_MATURITY : goal.returns-else-half_year-eq-ORIGINAL_MATURITY
returns-else-half_year-eq-ORIGINAL_MATURITY c =
    c.next_unit-grown.ensures ∙ ap (λ u. grown u c.rate_in.result 6) c.requires.begun
    ∙ ap (λ r. grown (start c.args.rates.now c.args.half_year) r 6) c.rate_in.ensures.value
    ∙ sym (start-else c.args.rates.now c.args.half_year c.if-half_year-eq-ORIGINAL_MATURITY.false)
