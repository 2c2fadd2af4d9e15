use Rattle.std.proofs.Common.{drop}
use Rattle.std.specs.List.{AllByRecursion}
use Rattle.ee_desk_texts.specs.Ranges.{RateRowFits}
use Rattle.ee_desk_texts.proofs.invariants.rate_rows_fit.Given as goal

abbrev pub invariant-loop-row : goal.invariant-loop-row
invariant-loop-row l = AllByRecursion RateRowFits (drop l.row-index l.rows) → AllByRecursion RateRowFits l.rows
