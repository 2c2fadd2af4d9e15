use Rattle.std.proofs.Common.{◌↔◌, drop}
use Rattle.std.specs.List.{AllByRecursion}
use Rattle.ee_store_load.proofs.testing.all_pass.Given as goal

abbrev pub invariant-loop-row : goal.invariant-loop-row
invariant-loop-row g l = AllByRecursion g.P.RowTest.passes (drop l.row-index l.rows) ↔ AllByRecursion g.P.RowTest.passes l.rows
