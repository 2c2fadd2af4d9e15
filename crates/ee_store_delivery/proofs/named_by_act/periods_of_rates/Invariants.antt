use Rattle.std.proofs.Common.{◌≡◌, map, take}
use Rattle.ee_store_delivery.proofs.named_by_act.periods_of_rates.Given as goal

abbrev pub invariant-loop-row : goal.invariant-loop-row
invariant-loop-row l = l.periods.items ≡ map (λ row. row.from) (take l.row-index l.rows)
