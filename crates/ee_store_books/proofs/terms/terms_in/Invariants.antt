use Rattle.std.proofs.Common.{◌≡◌, take}
use Rattle.std.specs.FinMap as finite
use Rattle.sqlite.specs.Held.{state}
use Rattle.sqlite.specs.State.{HasCleanDisk}
use Rattle.ee_desk_model.specs.Views.{picked}
use Rattle.ee_desk_model.specs.Repeats.{Content}
use Rattle.ee_store_tables.specs.Rows.{Rows, IsInside, Sees}
use Rattle.ee_store_books.specs.Found.{terms_found}
use Rattle.ee_store_books.specs.Seen.{SeesContent, StaysSeen}
use Rattle.ee_store_books.proofs.InTurn.{Stays}
use Rattle.ee_store_books.proofs.terms.terms_in.Given as goal

abbrev pub invariant-loop-period : goal.invariant-loop-period
invariant-loop-period g l =
    let old = state g.S.Store l.fn.tx.conn.now in
    let now = state g.S.Store l.tx.conn.now in
    record {
      same_reference : l.tx.conn.ghost_name ≡ l.fn.tx.conn.ghost_name;
      stays : Stays old now;
      rows : HasCleanDisk now → IsInside old → (rows : Rows) → Sees old rows → StaysSeen old now rows;
      found : HasCleanDisk now → IsInside old → (content : Content) → SeesContent old content
          → terms_found l.found.entries ≡ picked (finite.get content.books.rates) (take l.period-index l.periods);
    }
