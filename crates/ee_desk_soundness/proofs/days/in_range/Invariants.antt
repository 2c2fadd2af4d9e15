use Rattle.std.proofs.Common.{drop}
use Rattle.std.specs.List.{AllByRecursion}
use Rattle.ee_desk_model.specs.Sound.{IsDay}
use Rattle.ee_desk_soundness.specs.Inner.Days.{days_of}
use Rattle.ee_desk_soundness.proofs.days.in_range.Given as goal

abbrev pub invariant-loop-batch : goal.invariant-loop-batch
invariant-loop-batch l = AllByRecursion IsDay (days_of (drop l.batch-index l.batches) l.fn.day) → AllByRecursion IsDay (days_of l.batches l.fn.day)
