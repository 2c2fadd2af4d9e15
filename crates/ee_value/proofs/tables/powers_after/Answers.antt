use Rattle.std.proofs.Common.{subst, true-eqb, rules}
use Rattle.ee_roots.specs.Roots.{IsLow, IsHigh}
use Rattle.ee_value.proofs.Starts.{rate-kept}
use Rattle.ee_value.proofs.tables.powers_after.Goals as goal

pub returns-then-eq-clause-low : goal.returns-then-eq-clause-low
returns-then-eq-clause-low c =
    subst (λ r. IsLow c.args.before.bits r c.args.before.low) (rate-kept c.args.rates.now (true-eqb _ _ c.if-eq.ensures)) c.requires.of_low

pub returns-then-eq-clause-high : goal.returns-then-eq-clause-high
returns-then-eq-clause-high c =
    subst (λ r. IsHigh c.args.before.bits r c.args.before.high) (rate-kept c.args.rates.now (true-eqb _ _ c.if-eq.ensures)) c.requires.of_high

pub returns-else-eq-clause-high : goal.returns-else-eq-clause-high
returns-else-eq-clause-high c = search rules

pub returns-else-eq-clause-low : goal.returns-else-eq-clause-low
returns-else-eq-clause-low c = search rules
