use Rattle.std.proofs.Common.{take, sym, ap, ◌∙◌}
use Rattle.ee_desk_model.specs.Sound.{last_of}
use Rattle.ee_desk_soundness.proofs.Walks.{taken_is}
use Rattle.ee_desk_model.proofs.Lemmas.Books.{last_of_push}
use Rattle.ee_desk_soundness.proofs.days.last_day.Goals as goal

pub loop-batch-preserved : goal.loop-batch-preserved
loop-batch-preserved c =
    sym (ap last_of (taken_is c.args.batches.now c.loop-batch.batch-index c.batch-item.result c.loop-batch-test.true c.batch-item.is)
    ∙ last_of_push (take c.loop-batch.batch-index c.args.batches.now) c.batch-item.result)
