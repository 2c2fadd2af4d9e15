use Rattle.std.proofs.Common.{map, take}
use Rattle.ee_desk_model.specs.Sound.{day_of_batch}
use Rattle.ee_desk_soundness.specs.Inner.Days.{AreNothing}
use Rattle.ee_desk_soundness.proofs.days.empty_counts.Given as goal

abbrev pub invariant-loop-batch : goal.invariant-loop-batch
invariant-loop-batch l = AreNothing l.counts.entries (map day_of_batch (take l.batch-index l.batches))
