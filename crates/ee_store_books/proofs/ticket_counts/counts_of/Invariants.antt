use Rattle.std.proofs.Common.{◌≡◌, take}
use Rattle.std.specs.List.{sum_by}
use Rattle.ee_store_books.proofs.ticket_counts.counts_of.Given as goal

abbrev pub invariant-loop-sum : goal.invariant-loop-sum
invariant-loop-sum l = (l.bonds ≡ sum_by (λ s. s.bonds) (take l.sum-index l.sums)) × (l.total ≡ sum_by (λ s. s.total) (take l.sum-index l.sums))
