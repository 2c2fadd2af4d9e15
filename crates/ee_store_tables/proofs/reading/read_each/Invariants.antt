use Rattle.std.proofs.Common.{◌≡◌, map, take}
use Rattle.ee_store_tables.proofs.reading.read_each.Given as goal

abbrev pub invariant-loop-row : goal.invariant-loop-row
invariant-loop-row g l = take l.row-index l.rows ≡ map g.T.QueryRow.shown l.found.items
