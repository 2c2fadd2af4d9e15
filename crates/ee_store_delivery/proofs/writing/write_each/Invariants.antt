use Rattle.std.proofs.Common.{◌≡◌, ℕ, ◌+◌, drop}
use Rattle.sqlite.specs.Held.{state}
use Rattle.sqlite.specs.State.{HasCleanDisk}
use Rattle.ee_store_tables.specs.Rows.{Rows, Sees, IsInside, HasRoom}
use Rattle.ee_store_delivery.specs.Inner.Written.{applied_rows, CanWriteAll, all_added_rows}
use Rattle.ee_store_books.proofs.Lemmas.Lookups.{Stays}
use Rattle.ee_store_delivery.proofs.writing.write_each.Given as goal

-- the changes that are left make of the rows so far what all of them make of the first ones
abbrev pub invariant-loop-change : goal.invariant-loop-change
invariant-loop-change g l =
    let old = state g.S.Store l.fn.tx.conn.now in
    let now = state g.S.Store l.tx.conn.now in
    record {
      same_reference : l.tx.conn.ghost_name ≡ l.fn.tx.conn.ghost_name;
      stays : Stays old now;
      written : HasCleanDisk now → (rows : Rows) → Sees old rows
          → (made : Rows) × Sees now made × (applied_rows l.fn.last_day made (drop l.change-index l.fn.changes) ≡ applied_rows l.fn.last_day rows l.fn.changes)
          × (CanWriteAll l.fn.last_day rows l.fn.changes → CanWriteAll l.fn.last_day made (drop l.change-index l.fn.changes));
      room : HasCleanDisk now → IsInside old → (rows : Rows) → Sees old rows → (n : ℕ) → HasRoom (all_added_rows l.fn.changes + n) old → HasRoom (all_added_rows (drop l.change-index l.fn.changes) + n) now;
    }
