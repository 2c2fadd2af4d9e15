use Rattle.std.proofs.Common.{◌≡◌, ◌↔◌, ◌<◌, true, List, [], drop, refl, rules, subst}
use Rattle.ee_desk_model.specs.declared.replies.Batch.{Batch}
use Rattle.std.proofs.lemmas.List.{drop_all}
use Rattle.ee_desk_soundness.specs.Checks.{InOrder}
use Rattle.ee_desk_soundness.specs.Inner.Days.{days_of}
use Rattle.ee_desk_soundness.proofs.InOrder.{Follows, below_on, ordered_on, open_follows}
use Rattle.ee_desk_soundness.proofs.days.days_rise.Goals as goal

pub loop-batch-preserved : goal.loop-batch-preserved
loop-batch-preserved c =
    let holds : c.is_later.result ≡ true = search rules in
    ordered_on ◌<◌ below_on (λ (x : Batch). x.day) (λ bs. days_of bs c.args.day) (λ x xs. refl) c.args.batches.now c.loop-batch.batch-index c.batch-item.result c.loop-batch.last (InOrder ◌<◌ (days_of c.args.batches.now c.args.day))
    c.loop-batch-test.true c.batch-item.is (c.is_later.ensures.0 holds) c.loop-batch.invariant

pub returns : goal.returns
returns c =
    let none : drop c.loop-batch.batch-index c.args.batches.now ≡ [] = drop_all c.loop-batch.batch-index c.args.batches.now (search rules) in
    let end = subst (λ (bs : List Batch). Follows ◌<◌ c.loop-batch.last (days_of bs c.args.day) ↔ InOrder ◌<◌ (days_of c.args.batches.now c.args.day)) none c.loop-batch.invariant in
    let day = open_follows ◌<◌ c.loop-batch.last c.args.day in
    (λ r. end.0 (day.0 (c.are_later.ensures.0 r)), λ h. c.are_later.ensures.1 (day.1 (end.1 h)))
