use Rattle.std.proofs.Common.{◌≡◌, map, take}
use Rattle.ee_store_rows.specs.Rows.{paid_row}
use Rattle.ee_store_queries.specs.Inner.Asking.{row_of_placed}
use Rattle.ee_store_queries.proofs.from_rows.lines_shown.Given as goal

abbrev pub invariant-loop-row : goal.invariant-loop-row
invariant-loop-row l = map paid_row l.lines.items ≡ map row_of_placed (take l.row-index l.rows)
