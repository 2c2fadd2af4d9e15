use Rattle.std.proofs.Common.{arith, rules}
use Rattle.ee_roots.proofs.Bounds.{Encloses-from_root, high-le, low-le_high}
use Rattle.ee_roots.proofs.roots.root_bounds.Goals as goal

-- the clauses come first, so that they refuse wrong bounds before the invariant of `Root` does
pub returns-clause-low : goal.returns-clause-low
returns-clause-low c = search rules

pub returns-clause-high : goal.returns-clause-high
returns-clause-high c = search rules

pub invariant_of-result : goal.invariant_of-result
invariant_of-result c =
    let l = c.low_root-low.ensures.low in let h = c.high_root-high.ensures.high in
    (omega (arith, l.0), low-le_high _ _ _ _ l h, high-le _ _ _ _ l h, c.high_root-high.ensures.near_one, c.one-one.ensures.precise, c.one-one.ensures.fits)

pub returns-clause-encloses : goal.returns-clause-encloses
returns-clause-encloses c = Encloses-from_root _ _ _ _ c.low_root-low.ensures.low c.high_root-high.ensures.high

pub returns-clause-narrow : goal.returns-clause-narrow
returns-clause-narrow c =
    omega (arith, high-le _ _ _ _ c.low_root-low.ensures.low c.high_root-high.ensures.high)
