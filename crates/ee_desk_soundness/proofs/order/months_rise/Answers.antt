use Rattle.std.proofs.Common.{◌≡◌, ◌<◌, true, map, refl, rules}
use Rattle.ee_value.specs.declared.rates.RateRow.{RateRow}
use Rattle.ee_desk_soundness.specs.Checks.{HaveRisingMonths}
use Rattle.ee_desk_soundness.proofs.InOrder.{below_on, ordered_on}
use Rattle.ee_desk_soundness.proofs.order.months_rise.Goals as goal

pub loop-row-preserved : goal.loop-row-preserved
loop-row-preserved c =
    let holds : c.is_later_month.result ≡ true = search rules in
    ordered_on ◌<◌ below_on (λ (x : RateRow). x.from) (map (λ (x : RateRow). x.from)) (λ x xs. refl) c.args.rows.now c.loop-row.row-index c.row-item.result c.loop-row.last (HaveRisingMonths c.args.rows.now)
    c.loop-row-test.true c.row-item.is (c.is_later_month.ensures.0 holds) c.loop-row.invariant
