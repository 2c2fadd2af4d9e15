use Rattle.std.proofs.Common.{◌≡◌, ◌==◌, drop, find}
use Rattle.ee_desk.proofs.queries.batch_on.Given as goal

abbrev pub invariant-loop-batch : goal.invariant-loop-batch
invariant-loop-batch l = find (λ batch. batch.day == l.day) (drop l.batch-index l.batches) ≡ find (λ batch. batch.day == l.day) l.batches
