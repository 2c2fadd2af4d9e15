use Rattle.std.proofs.Common.{◌≡◌, true, map, refl, rules}
use Rattle.ee_calculator.specs.declared.bonds.Bond.{Bond}
use Rattle.ee_desk_soundness.specs.Checks.{IsBefore, HaveRisingSerials}
use Rattle.ee_desk_soundness.proofs.Lemmas.{before_on, ordered_on}
use Rattle.ee_desk.proofs.parts.serials_rise.Goals as goal

pub loop-bond-preserved : goal.loop-bond-preserved
loop-bond-preserved c =
    let holds : c.is_later_serial.result ≡ true = search rules in
    ordered_on IsBefore before_on (λ (x : Bond). x.serial) (map (λ (x : Bond). x.serial)) (λ x xs. refl) c.args.bonds.now c.loop-bond.bond-index c.bond-item.result c.loop-bond.last (HaveRisingSerials c.args.bonds.now)
    c.loop-bond-test.true c.bond-item.is (c.is_later_serial.ensures.0 holds) c.loop-bond.invariant
