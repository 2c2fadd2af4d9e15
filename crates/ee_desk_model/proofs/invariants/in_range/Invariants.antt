use Rattle.std.proofs.Common.{drop}
use Rattle.std.specs.List.{AllByRecursion}
use Rattle.ee_desk_model.specs.Ranges.{IsInRange}
use Rattle.ee_desk_model.proofs.invariants.in_range.Given as goal

abbrev pub invariant-loop-change : goal.invariant-loop-change
invariant-loop-change l = AllByRecursion IsInRange (drop l.change-index l.changes) → AllByRecursion IsInRange l.changes
