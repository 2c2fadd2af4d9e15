use Rattle.std.proofs.Common.{◌≡◌, true, rules}
use Rattle.ee_desk_soundness.specs.Inner.Days.{days_of}
use Rattle.ee_desk_soundness.proofs.Counts.{nothing_at, fit_on, fit_back, all_counted}
use Rattle.ee_desk_soundness.proofs.days.counts_of.Goals as goal

pub count_all-requires-clause-empty : goal.count_all-requires-clause-empty
count_all-requires-clause-empty c =
    nothing_at c.in_ok-counts.counts.entries (days_of c.args.batches.now c.args.day) c.in_ok-counts.ensures

pub returns-then-count_all-clause-some : goal.returns-then-count_all-clause-some
returns-then-count_all-clause-some c =
    let holds : c.count_all.result ≡ true = search rules in
    (fit_on c.in_ok-counts.counts.entries (days_of c.args.batches.now c.args.day) c.args.tickets.now c.in_ok-counts.ensures (c.count_all.ensures.fit.0 holds), all_counted c.in_ok-counts.counts.entries c.count_all.new.counts.entries (days_of c.args.batches.now c.args.day) c.args.tickets.now c.in_ok-counts.ensures (c.count_all.ensures.counted holds))

pub returns-else-count_all-clause-none : goal.returns-else-count_all-clause-none
returns-else-count_all-clause-none c =
    λ e fit. let full = c.count_all.ensures.fit.1 (fit_back c.in_ok-counts.counts.entries (days_of c.args.batches.now c.args.day) c.args.tickets.now c.in_ok-counts.ensures fit) in absurd (search rules)
