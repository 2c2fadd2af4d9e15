use Rattle.std.proofs.Common.{◌≡◌}
use Rattle.ee_value.specs.Open.{is_unsettled, bounds_differ}
use Rattle.ee_value.proofs.OpenAges.{unsettled-bounds}
use Rattle.ee_value.proofs.growth.grown_once.Goals as goal

pub returns-in-Some : goal.returns-in-Some
returns-in-Some c = (c.in-Some.ensures.value.0 c.args.bits, c.in-Some.ensures.value.1)

pub returns : goal.returns
returns c =
    let u = c.args.unit in let r = c.args.rate in let m = c.args.months in let b = c.args.bits in
    let left = c.in_default.ensures.value in
    let e : is_unsettled u r m b ≡ bounds_differ u r m b = unsettled-bounds u r m b left.0 left.1 left.2 in
    rw e (rw c.root_bounds-root.ensures.bits at c.bounded_unit.ensures)
