use Rattle.std.proofs.Common.{◌≡◌, map, take}
use Rattle.ee_store_queries.specs.Inner.Asking.{unpaid_row}
use Rattle.ee_store_queries.proofs.from_rows.bonds_shown.Given as goal

abbrev pub invariant-loop-row : goal.invariant-loop-row
invariant-loop-row l = map unpaid_row l.bonds.items ≡ take l.row-index l.rows
