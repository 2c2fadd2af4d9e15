use Rattle.std.proofs.Common.{◌≤◌, max, refl, sym, ap, ◌∙◌, arith, subst}
use Rattle.ee_value.specs.Rounding.{Rounds}
use Rattle.ee_value.specs.Chain.{rate_in, start}
use Rattle.ee_value.proofs.Rounding.{Rounds-grown, grown-is}
use Rattle.ee_value.proofs.Starts.{rate-original, rate-extended, rate-le, start-none, start-else, start-at_20_years, start-ge, start-le}
use Rattle.ee_value.proofs.laws.chain_law.Goals as goal

pub returns-clause-original : goal.returns-clause-original
returns-clause-original c = rate-original

pub returns-clause-extended : goal.returns-clause-extended
returns-clause-extended c = rate-extended

pub returns-clause-first : goal.returns-clause-first
returns-clause-first c = start-none

pub returns-clause-next : goal.returns-clause-next
returns-clause-next c = λ rates k small other.
    let g : 1250 ≤ start rates k = start-ge rates k small in
    subst (λ n. Rounds (start rates k) (rate_in rates k) 6 n) (sym (start-else rates k other))
    (Rounds-grown (start rates k) (rate_in rates k) 6 (omega (arith, g)) (omega arith) (rate-le rates k small))

pub returns-clause-doubled : goal.returns-clause-doubled
returns-clause-doubled c = λ rates n small rounds.
    start-at_20_years rates 39 refl ∙ ap (λ u. max u 2500) (grown-is (start rates 39) (rate_in rates 39) 6 n (omega arith) (rate-le rates 39 small) rounds)

pub returns-clause-range : goal.returns-clause-range
returns-clause-range c = λ rates k small few. (start-ge rates k small, start-le rates k small few)
