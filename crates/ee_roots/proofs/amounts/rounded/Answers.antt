use Rattle.std.proofs.Common.{◌≡◌, ◌+◌, ◌*◌, ◌/◌, ◌^◌, ◌<◌, ◌≤◌, arith}
use Rattle.std.proofs.lemmas.Nat.{pow_pos, pow-add, div_below}
use Rattle.std.proofs.Math.Pow.{pow_mono}
use Rattle.ee_roots.proofs.amounts.rounded.Goals as goal

pub overflow_add-result : goal.overflow_add-result
overflow_add-result c =
    let e : c.args.bits + 63 ≤ 125 = omega arith in
    let m : 2 ^ (c.args.bits + 63) ≤ 2 ^ 125 = pow_mono e in
    let n : 2 ^ c.args.bits ≤ 2 ^ 62 = pow_mono c.one-one.ensures.fits in
    record { fits = omega (arith, m, n, c.one-one.ensures.value, c.requires) }

pub overflow_cast-result : goal.overflow_cast-result
overflow_cast-result c =
    let m : 2 ^ (c.args.bits + 63) ≡ 2 ^ c.args.bits * 2 ^ 63 = pow-add 2 c.args.bits 63 in
    let p = pow_pos c.args.bits in
    let h : c.args.amount + 2 ^ c.args.bits / 2 < 2 ^ 64 * 2 ^ c.args.bits = omega (arith, m, p, c.requires) in
    record { fits = rw c.one-one.ensures.value (div_below (c.args.amount + 2 ^ c.args.bits / 2) (2 ^ c.args.bits) (2 ^ 64) p h) }
