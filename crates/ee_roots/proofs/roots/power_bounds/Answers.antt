use Rattle.std.proofs.Common.{◌-◌, arith, rules, ◌+◌, ◌*◌, ◌^◌, ◌≤◌}
use Rattle.std.proofs.lemmas.Nat.{mul-le}
use Rattle.ee_roots.specs.Products.{power_up}
use Rattle.ee_roots.proofs.Directed.{power_up-near, power_down-le-up, power_up-mono}
use Rattle.ee_roots.proofs.Bounds.{powers_apart}
use Rattle.ee_roots.proofs.roots.power_bounds.Goals as goal

pub returns-clause-narrow : goal.returns-clause-narrow
returns-clause-narrow c =
    let i = c.root.inside in let v = c.root.invariant in
    omega (
      arith,
      powers_apart i.bits i.low i.high (c.args.months - 1) v.4 (omega arith) v.1 v.2 v.3,
      c.raise_down-low.ensures,
      c.raise_up-high.ensures,
    )

pub returns-clause-near_one : goal.returns-clause-near_one
returns-clause-near_one c =
    let i = c.root.inside in let v = c.root.invariant in
    let n : 32 * power_up i.bits i.high (c.args.months - 1) ≤ (33 + 2 * (c.args.months - 1)) * 2 ^ i.bits =
    power_up-near i.bits i.high (c.args.months - 1) v.4 (omega arith) v.3 in
    let m : (33 + 2 * (c.args.months - 1)) * 2 ^ i.bits ≤ 43 * 2 ^ i.bits =
    mul-le (33 + 2 * (c.args.months - 1)) (2 ^ i.bits) 43 (2 ^ i.bits) (omega arith) (omega arith) in
    rw (← c.root.view_is) (omega (arith, n, m, c.raise_up-high.ensures))

pub returns-clause-order : goal.returns-clause-order
returns-clause-order c =
    let i = c.root.inside in let v = c.root.invariant in
    omega (
      arith,
      power_down-le-up i.bits i.low (c.args.months - 1),
      power_up-mono i.bits i.low i.high (c.args.months - 1) v.1,
      c.raise_down-low.ensures,
      c.raise_up-high.ensures,
    )

pub returns-clause-high : goal.returns-clause-high
returns-clause-high c = search rules
