use Rattle.std.proofs.Common.{◌↔◌, ◌<◌, drop}
use Rattle.ee_desk_soundness.specs.Checks.{InOrder}
use Rattle.ee_desk_soundness.specs.Inner.Days.{days_of}
use Rattle.ee_desk_soundness.proofs.InOrder.{Follows}
use Rattle.ee_desk_soundness.proofs.days.days_rise.Given as goal

abbrev pub invariant-loop-batch : goal.invariant-loop-batch
invariant-loop-batch l = Follows ◌<◌ l.last (days_of (drop l.batch-index l.batches) l.day) ↔ InOrder ◌<◌ (days_of l.batches l.day)
