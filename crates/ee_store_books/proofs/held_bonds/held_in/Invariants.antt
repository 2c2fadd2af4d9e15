use Rattle.std.proofs.Common.{◌≡◌, take}
use Rattle.sqlite.specs.Held.{state}
use Rattle.sqlite.specs.State.{HasCleanDisk}
use Rattle.ee_desk_model.specs.Seen.{held_of}
use Rattle.ee_desk_model.specs.Views.{picked}
use Rattle.ee_desk_model.specs.Repeats.{Content}
use Rattle.ee_store_tables.specs.Rows.{Rows, IsInside, Sees}
use Rattle.ee_store_books.specs.Found.{bonds_found}
use Rattle.ee_store_books.specs.Seen.{SeesContent, StaysSeen}
use Rattle.ee_store_books.proofs.InTurn.{Stays}
use Rattle.ee_store_books.proofs.held_bonds.held_in.Given as goal

abbrev pub invariant-loop-serial : goal.invariant-loop-serial
invariant-loop-serial g l =
    let old = state g.S.Store l.fn.tx.conn.now in
    let now = state g.S.Store l.tx.conn.now in
    record {
      same_reference : l.tx.conn.ghost_name ≡ l.fn.tx.conn.ghost_name;
      stays : Stays old now;
      rows : HasCleanDisk now → IsInside old → (rows : Rows) → Sees old rows → StaysSeen old now rows;
      found : HasCleanDisk now → IsInside old → (content : Content) → SeesContent old content
          → bonds_found l.found.entries ≡ picked (held_of content.books) (take l.serial-index l.serials);
    }
