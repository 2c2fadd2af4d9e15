use Rattle.std.proofs.Common.{◌≡◌, Some, map, length, take}
use Rattle.std.specs.Prelude.{All}
use Rattle.ee_store_tables.specs.AsRows.{FitsUnpaid, entry_of_unpaid}
use Rattle.ee_store_delivery.specs.Inner.Written.{added_entry}
use Rattle.ee_store_delivery.proofs.writing.first_bonds.Given as goal

-- the changes before this one are bonds that have these rows
abbrev pub invariant-loop-change : goal.invariant-loop-change
invariant-loop-change l =
    (length l.rows.items ≡ l.change-index) × (map (λ row. Some (entry_of_unpaid row)) l.rows.items ≡ map added_entry (take l.change-index l.changes)) × All FitsUnpaid l.rows.items
