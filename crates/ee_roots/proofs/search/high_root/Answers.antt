use Rattle.std.proofs.Common.{◌≡◌, ◌+◌, ◌*◌, ◌^◌, ◌≤◌, ap, ◌∙◌, arith}
use Rattle.std.proofs.Math.Pow.{pow_mono}
use Rattle.ee_roots.proofs.Directed.{IsAtMostHigh, power_down-small, low-at_most_high, next-at_most_high, near-from_least}
use Rattle.ee_roots.proofs.search.high_root.Goals as goal

pub wanted-wanted-requires : goal.wanted-wanted-requires
wanted-wanted-requires c =
    let m : 2 ^ c.args.bits ≤ 2 ^ 62 = pow_mono c.requires.fits in omega (arith, m, c.requires.one)

pub loop-bits-init : goal.loop-bits-init
loop-bits-init c =
    let least = low-at_most_high c.args.bits c.args.rate c.args.low c.requires.low in record {
      from_one = c.requires.low.0;
      near_one = near-from_least c.args.bits c.args.rate c.args.low c.requires.precise c.wanted-wanted.ensures.range least;
      least = least;
    }

pub overflow_mul-raise_down : goal.overflow_mul-raise_down
overflow_mul-raise_down c =
    record { fits = omega (arith, power_down-small c.args.bits c.loop-bits.high 5 c.requires.precise c.requires.fits (omega arith) c.loop-bits.invariant.near_one, c.raise_down.ensures) }

pub loop-bits-preserved : goal.loop-bits-preserved
loop-bits-preserved c =
    let is : c.wanted-wanted.result ≡ 2 ^ c.args.bits * (20000 + c.args.rate) = c.wanted-wanted.ensures.value ∙ ap (λ n. n * (20000 + c.args.rate)) c.requires.one in
    let least : IsAtMostHigh c.args.bits c.args.rate (c.loop-bits.high + 1) =
    next-at_most_high c.args.bits c.args.rate c.loop-bits.high c.wanted-wanted.result is (omega arith) c.loop-bits.invariant.least in record {
      from_one = omega arith;
      near_one = omega (arith, near-from_least c.args.bits c.args.rate (c.loop-bits.high + 1) c.requires.precise c.wanted-wanted.ensures.range least);
      least = least;
    }

pub loop-bits-smaller : goal.loop-bits-smaller
loop-bits-smaller c = omega (arith, (loop-bits-preserved c).near_one)

pub returns-clause-high : goal.returns-clause-high
returns-clause-high c =
    let is : c.wanted-wanted.result ≡ 2 ^ c.args.bits * (20000 + c.args.rate) = c.wanted-wanted.ensures.value ∙ ap (λ n. n * (20000 + c.args.rate)) c.requires.one in
    let i = c.loop-bits.invariant in (i.from_one, omega arith, i.least)
