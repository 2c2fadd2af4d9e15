use Rattle.std.proofs.Common.{◌≡◌, take}
use Rattle.ee_desk_model.specs.Sound.{last_of}
use Rattle.ee_desk_soundness.proofs.days.last_day.Given as goal

abbrev pub invariant-loop-batch : goal.invariant-loop-batch
invariant-loop-batch l = l.last ≡ last_of (take l.batch-index l.batches)
