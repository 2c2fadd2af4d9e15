use Rattle.std.proofs.Common.{◌≡◌, List, [], map}
use Rattle.sqlite.specs.State.{HasCleanDisk, IsUnchanged, Survives}
use Rattle.sqlite.specs.Held.{state}
use Rattle.sqlite.specs.Given.{HasGiven}
use Rattle.ee_store_schema.specs.Faults.{StaysOutside}
use Rattle.ee_store_load.proofs.reading.gather_rows.Given as goal

abbrev pub invariant-rows : goal.invariant-rows
invariant-rows g l =
    let old = state g.S.Store l.fn.conn in
    let now = state g.S.Store l.rows.conn.now in
    (l.rows.conn.ghost_name ≡ l.initial.rows.conn.ghost_name) × Survives old now (λ _. ⊥) × StaysOutside old now
    × ((found : List g.row.T.Denot) × (HasCleanDisk now → HasGiven g.S.Store l.sql [] l.rows.conn.now (map g.T.StoredRow.shown found) × IsUnchanged old now)
    × g.G.Gather.is_of l.gathered found)
