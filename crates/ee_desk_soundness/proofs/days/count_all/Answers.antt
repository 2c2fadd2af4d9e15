use Rattle.std.proofs.Common.{◌≡◌, true, rules, subst}
use Rattle.std.proofs.lemmas.List.{take_all}
use Rattle.ee_desk_soundness.specs.Inner.Days.{counts_at, HasRoom, FitCounts}
use Rattle.ee_desk_soundness.proofs.Counts.{no_room, space, known_more, few_more, counts_more}
use Rattle.ee_desk_soundness.proofs.days.count_all.Goals as goal

pub returns-then-not-has_room-clause-fit : goal.returns-then-not-has_room-clause-fit
returns-then-not-has_room-clause-fit c =
    let full : HasRoom (counts_at c.loop-ticket.counts.entries c.ticket-item.result.day) → c.has_room.result ≡ true = c.has_room.ensures.1 in
    (λ e. absurd (cc), λ fit. absurd (no_room c.args.counts.now.entries c.loop-ticket.counts.entries c.args.tickets.now c.loop-ticket.ticket-index c.ticket-item.result c.loop-ticket-test.true c.ticket-item.is c.loop-ticket.invariant.counted (λ r. let t = full r in search rules) fit))

pub count-requires : goal.count-requires
count-requires c =
    let holds : c.has_room.result ≡ true = search rules in
    space c.args.counts.now.entries c.loop-ticket.counts.entries c.args.tickets.now c.loop-ticket.ticket-index c.ticket-item.result c.requires.small c.loop-ticket-test.true c.ticket-item.is c.loop-ticket.invariant.counted (c.has_room.ensures.0 holds)

pub loop-ticket-preserved : goal.loop-ticket-preserved
loop-ticket-preserved c =
    let holds : c.has_room.result ≡ true = search rules in
    let room = c.has_room.ensures.0 holds in
    record {
      dated = known_more c.args.counts.now.entries c.loop-ticket.counts.entries c.args.tickets.now c.loop-ticket.ticket-index c.ticket-item.result c.loop-ticket-test.true c.ticket-item.is c.loop-ticket.invariant.counted room c.loop-ticket.invariant.dated;
      few = few_more c.args.counts.now.entries c.loop-ticket.counts.entries c.args.tickets.now c.loop-ticket.ticket-index c.ticket-item.result c.loop-ticket-test.true c.ticket-item.is c.loop-ticket.invariant.counted room c.loop-ticket.invariant.few;
      counted = counts_more c.args.counts.now.entries c.loop-ticket.counts.entries c.count.new.counts.entries c.args.tickets.now c.loop-ticket.ticket-index c.ticket-item.result c.loop-ticket-test.true c.ticket-item.is c.loop-ticket.invariant.counted c.count.ensures;
    }

pub returns-clause-fit : goal.returns-clause-fit
returns-clause-fit c =
    let all = take_all c.loop-ticket.ticket-index c.args.tickets.now (search rules) in
    (λ e. subst (FitCounts c.args.counts.now.entries) all (c.loop-ticket.invariant.dated, c.loop-ticket.invariant.few), λ fit. cc)
