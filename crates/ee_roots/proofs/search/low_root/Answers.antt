use Rattle.std.proofs.Common.{◌≡◌, ◌+◌, ◌-◌, ◌*◌, ◌/◌, ◌^◌, ◌≤◌, ap, ◌∙◌, arith}
use Rattle.std.proofs.Math.Pow.{pow_mono}
use Rattle.ee_roots.proofs.Directed.{one-ge-256, one-div-32, one_fits, top_exceeds, power_up-small, IsLow-from_next}
use Rattle.ee_roots.proofs.search.low_root.Goals as goal

pub wanted-wanted-requires : goal.wanted-wanted-requires
wanted-wanted-requires c =
    let m : 2 ^ c.args.bits ≤ 2 ^ 62 = pow_mono c.requires.fits in omega (arith, m, c.requires.one)

pub loop-above-init : goal.loop-above-init
loop-above-init c =
    let b = c.args.bits in let r = c.args.rate in let s = c.args.one in let w = c.wanted-wanted.result in
    let is : c.wanted-wanted.result ≡ 2 ^ c.args.bits * (20000 + c.args.rate) = c.wanted-wanted.ensures.value ∙ ap (λ n. n * (20000 + c.args.rate)) c.requires.one in
    record {
      from_one = omega arith;
      apart = omega (arith, one-ge-256 b c.requires.precise);
      near_one = omega (arith, one-div-32 b (omega arith), c.requires.one);
      low_fits = one_fits b r s w c.requires.one is;
      above_exceeds = top_exceeds b r s w c.requires.precise c.wanted-wanted.ensures.range c.requires.one is;
    }

pub overflow_mul-raise_up : goal.overflow_mul-raise_up
overflow_mul-raise_up c =
    record { fits = omega (arith, power_up-small c.args.bits (c.loop-above.low + (c.loop-above.above - c.loop-above.low) / 2) 5 c.requires.precise c.requires.fits (omega arith) (omega arith), c.raise_up.ensures) }

pub returns-clause-low : goal.returns-clause-low
returns-clause-low c =
    let is : c.wanted-wanted.result ≡ 2 ^ c.args.bits * (20000 + c.args.rate) = c.wanted-wanted.ensures.value ∙ ap (λ n. n * (20000 + c.args.rate)) c.requires.one in
    let i = c.loop-above.invariant in
    IsLow-from_next c.args.bits c.args.rate c.loop-above.low c.loop-above.above c.wanted-wanted.result
    is (omega arith) (omega arith) i.low_fits i.above_exceeds
