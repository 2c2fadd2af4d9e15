use Rattle.std.proofs.Common.{drop}
use Rattle.std.specs.List.{AllByRecursion}
use Rattle.ee_desk_texts.specs.Ranges.{BatchFits}
use Rattle.ee_store_contents.proofs.invariants.batches_fit.Given as goal

abbrev pub invariant-loop-batch : goal.invariant-loop-batch
invariant-loop-batch l = AllByRecursion BatchFits (drop l.batch-index l.batches) → AllByRecursion BatchFits l.batches
