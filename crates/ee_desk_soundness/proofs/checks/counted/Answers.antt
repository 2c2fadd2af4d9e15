use Rattle.std.proofs.Common.{◌≡◌, true, ◌∙◌, rules}
use Rattle.ee_desk_soundness.proofs.SoundParts.{batches_right, right_batches, open_is}
use Rattle.ee_desk_soundness.proofs.checks.counted.Goals as goal

pub returns-clause-counts : goal.returns-clause-counts
returns-clause-counts c =
    c.open_counts.ensures ∙ open_is c.in_ok-counts.counts.entries c.args.batches.now c.args.day c.args.tickets.now c.in_ok-counts.ensures.counts

pub returns-clause-right : goal.returns-clause-right
returns-clause-right c =
    let holds : c.are_counted.result ≡ true = search rules in
    record { fit = c.in_ok-counts.ensures.right; batches = batches_right c.in_ok-counts.counts.entries c.args.batches.now c.args.day c.args.tickets.now c.in_ok-counts.ensures.counts (c.are_counted.ensures.0 holds) }

pub returns-then-not-are_counted-clause-unsound : goal.returns-then-not-are_counted-clause-unsound
returns-then-not-are_counted-clause-unsound c =
    λ e right. let full = c.are_counted.ensures.1 (right_batches c.in_ok-counts.counts.entries c.args.batches.now c.args.day c.args.tickets.now c.in_ok-counts.ensures.counts right.batches) in absurd (search rules)
