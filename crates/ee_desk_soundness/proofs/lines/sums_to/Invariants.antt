use Rattle.std.proofs.Common.{◌≡◌, ◌↔◌, drop}
use Rattle.std.specs.List.{sum_by}
use Rattle.ee_desk_model.specs.PlainBooks.{cents_of}
use Rattle.ee_desk_soundness.proofs.lines.sums_to.Given as goal

abbrev pub invariant-loop-line : goal.invariant-loop-line
invariant-loop-line l = (l.left ≡ sum_by cents_of (drop l.line-index l.lines)) ↔ (l.fn.total.0 ≡ sum_by cents_of l.lines)
