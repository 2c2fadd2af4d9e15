use Rattle.std.proofs.Common.{◌↔◌, drop}
use Rattle.std.specs.List.{AllByRecursion}
use Rattle.ee_desk_soundness.specs.Inner.Days.{IsCounted}
use Rattle.ee_desk_soundness.proofs.days.are_counted.Given as goal

abbrev pub invariant-loop-batch : goal.invariant-loop-batch
invariant-loop-batch l = AllByRecursion (IsCounted l.counts.entries) (drop l.batch-index l.batches) ↔ AllByRecursion (IsCounted l.counts.entries) l.batches
