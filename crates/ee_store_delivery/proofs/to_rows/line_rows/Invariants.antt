use Rattle.std.proofs.Common.{◌≡◌, map, take}
use Rattle.std.specs.Prelude.{All}
use Rattle.ee_store_tables.specs.AsRows.{FitsLine, row_of_line}
use Rattle.ee_store_rows.specs.Rows.{paid_row}
use Rattle.ee_store_delivery.proofs.to_rows.line_rows.Given as goal

abbrev pub invariant-loop-line : goal.invariant-loop-line
invariant-loop-line l = (map row_of_line l.rows.items ≡ map paid_row (take l.line-index l.lines)) × All FitsLine l.rows.items
