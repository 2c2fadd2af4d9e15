use Rattle.std.proofs.Common.{◌≡◌, ◌+◌, ◌-◌, ◌*◌, ◌^◌, ◌≤◌, false, arith}
use Rattle.std.proofs.Math.Pow.{pow_mono}
use Rattle.ee_roots.specs.Products.{power_down, power_up}
use Rattle.ee_roots.specs.Amounts.{cents}
use Rattle.ee_roots.proofs.Lemmas.{low-le_high}
use Rattle.ee_value.specs.Rounding.{grown}
use Rattle.ee_value.specs.Open.{bounds_differ}
use Rattle.ee_value.proofs.OpenAges.{settle_cases, settled, unsettled, unit-fits}
use Rattle.ee_value.proofs.growth.bounded_unit.Goals as goal

-- the clause comes first, so that it refuses a body that decides by one bound
pub returns : goal.returns
returns c =
    let u = c.args.unit in let r = c.args.rate in let m = c.args.months in let b = c.args.root.now.bits in
    let root = c.args.root.now in
    let l : c.args.bounds.0 ≡ power_down c.args.root.now.bits c.args.root.now.low (c.args.months - 1) =
    c.requires.low in
    let h : c.args.bounds.1 ≡ power_up c.args.root.now.bits c.args.root.now.high (c.args.months - 1) =
    c.requires.high in
    let is_low = c.requires.of_low in let is_high = c.requires.of_high in
    let narrow : power_up c.args.root.now.bits c.args.root.now.high (c.args.months - 1) ≤ power_down c.args.root.now.bits c.args.root.now.low (c.args.months - 1) + 32 =
    omega (arith, l, h, c.requires.near.1) in
    let order = low-le_high b r root.low root.high is_low is_high in
    let answer = rw (c.from-unit.ensures, c.bits-bits.ensures.value, l, h) at c.settle.ensures in
    settle_cases c.settle.result
    (cents b (u * power_down b root.low (m - 1)) ≡ cents b (u * power_up b root.high (m - 1)))
    (cents b (u * power_down b root.low (m - 1)))
    _ (λ n. (bounds_differ u r m b ≡ false) × (n ≡ grown u r m))
    answer
    (λ differ. unsettled u r m b root.low root.high c.bits-bits.ensures.precise c.requires.at_most_20_percent c.requires.some c.requires.inside c.requires.few is_low is_high differ narrow order)
    (λ e n is. settled u r m b root.low root.high c.bits-bits.ensures.precise c.requires.at_most_20_percent c.requires.some c.requires.inside c.requires.few is_low is_high n e is)

pub settle-requires-clause-high_fits : goal.settle-requires-clause-high_fits
settle-requires-clause-high_fits c =
    let near : 32 * c.args.bounds.1 ≤ 43 * 2 ^ c.args.root.now.bits = c.requires.near.2 in
    rw (c.from-unit.ensures, c.bits-bits.ensures.value) (unit-fits c.args.unit c.args.root.now.bits c.args.bounds.1 c.requires.small near)

pub settle-requires-clause-low_fits : goal.settle-requires-clause-low_fits
settle-requires-clause-low_fits c =
    let near : 32 * c.args.bounds.1 ≤ 43 * 2 ^ c.args.root.now.bits = c.requires.near.2 in
    let order : c.args.bounds.0 ≤ c.args.bounds.1 = c.requires.near.0 in
    rw (c.from-unit.ensures, c.bits-bits.ensures.value) (unit-fits c.args.unit c.args.root.now.bits c.args.bounds.0 c.requires.small (omega (arith, near, order)))

pub overflow_mul-unit : goal.overflow_mul-unit
overflow_mul-unit c =
    let near : 32 * c.args.bounds.1 ≤ 43 * 2 ^ c.args.root.now.bits = c.requires.near.2 in
    let order : c.args.bounds.0 ≤ c.args.bounds.1 = c.requires.near.0 in
    let f = unit-fits c.args.unit c.args.root.now.bits c.args.bounds.0 c.requires.small (omega (arith, near, order)) in
    let places = c.bits-bits.ensures.fits in
    let e : c.args.root.now.bits + 63 ≤ 125 = omega arith in
    let m : 2 ^ (c.args.root.now.bits + 63) ≤ 2 ^ 125 = pow_mono e in
    record { fits = rw c.from-unit.ensures (omega (arith, f, m)) }
