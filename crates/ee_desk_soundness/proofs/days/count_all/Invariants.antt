use Rattle.std.proofs.Common.{◌≡◌, ◌==◌, ℕ, ◌≤◌, take}
use Rattle.std.specs.Prelude.{count_by}
use Rattle.std.specs.Option.{IsSome, option_map}
use Rattle.std.specs.List.{AllByRecursion}
use Rattle.ee_desk_soundness.specs.Inner.Days.{counts_at, counts_on}
use Rattle.ee_desk_soundness.proofs.days.count_all.Given as goal

abbrev pub invariant-loop-ticket : goal.invariant-loop-ticket
invariant-loop-ticket l = record {
  dated : AllByRecursion (λ ticket. IsSome (counts_at l.fn.counts.entries ticket.day)) (take l.ticket-index l.tickets);
  few : (day : ℕ) → count_by (λ ticket. ticket.day == day) (take l.ticket-index l.tickets) ≤ 1000;
  counted : (q : ℕ) → counts_at l.counts.entries q ≡ option_map (λ _. counts_on (take l.ticket-index l.tickets) q) (counts_at l.fn.counts.entries q);
}
