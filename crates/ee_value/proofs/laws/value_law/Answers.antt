use Rattle.std.proofs.Common.{◌≡◌, min, sym, ap, ◌∙◌, arith}
use Rattle.ee_value.specs.Value.{accrued}
use Rattle.ee_value.proofs.Accruals.{Rounds-accrued, accrued-counted, accrued-start, accrued-mono, accrued-ge, accrued-le, redemption-penalty, redemption-whole}
use Rattle.ee_value.proofs.laws.value_law.Goals as goal

pub returns-clause-accrued : goal.returns-clause-accrued
returns-clause-accrued c = λ rates a small few.
    let e : min a 360 ≡ a = omega arith in rw e at (Rounds-accrued rates a small)

pub returns-clause-stops : goal.returns-clause-stops
returns-clause-stops c = λ rates a past.
    let e : min a 360 ≡ 360 = omega arith in sym (accrued-counted rates a) ∙ ap (λ n. accrued rates n) e

pub returns-clause-half_years : goal.returns-clause-half_years
returns-clause-half_years c = accrued-start

pub returns-clause-never_falls : goal.returns-clause-never_falls
returns-clause-never_falls c = accrued-mono

pub returns-clause-range : goal.returns-clause-range
returns-clause-range c = λ rates a small. (accrued-ge rates a small, accrued-le rates a small)

pub returns-clause-penalty : goal.returns-clause-penalty
returns-clause-penalty c = λ rates a some lt. redemption-penalty rates a lt

pub returns-clause-no_penalty : goal.returns-clause-no_penalty
returns-clause-no_penalty c = redemption-whole
