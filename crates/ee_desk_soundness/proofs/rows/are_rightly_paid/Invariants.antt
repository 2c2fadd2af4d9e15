use Rattle.std.proofs.Common.{◌↔◌, drop}
use Rattle.std.specs.List.{AllByRecursion}
use Rattle.std.specs.FinMap as finite
use Rattle.ee_desk_soundness.specs.Inner.Checks.{IsRightlyPaid}
use Rattle.ee_desk_soundness.proofs.rows.are_rightly_paid.Given as goal

abbrev pub invariant-loop-held : goal.invariant-loop-held
invariant-loop-held l = AllByRecursion (IsRightlyPaid (finite.from_entries l.rates.entries) l.tickets) (drop l.held-index l.rows) ↔ AllByRecursion (IsRightlyPaid (finite.from_entries l.rates.entries) l.tickets) l.rows
