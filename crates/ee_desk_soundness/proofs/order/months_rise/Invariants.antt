use Rattle.std.proofs.Common.{◌↔◌, ◌<◌, map, drop}
use Rattle.ee_desk_soundness.specs.Checks.{HaveRisingMonths}
use Rattle.ee_desk_soundness.proofs.InOrder.{Follows}
use Rattle.ee_desk_soundness.proofs.order.months_rise.Given as goal

abbrev pub invariant-loop-row : goal.invariant-loop-row
invariant-loop-row l = Follows ◌<◌ l.last (map (λ row. row.from) (drop l.row-index l.rows)) ↔ HaveRisingMonths l.rows
