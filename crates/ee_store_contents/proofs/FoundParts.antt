-- Parts that are read table by table.
use Rattle.std.proofs.Common.{◌≡◌, List, map, refl, sym}
use Rattle.std.specs.Prelude.{Some}
use Rattle.ee_value.specs.declared.rates.RateRow.{RateRow}
use Rattle.ee_desk_model.specs.declared.replies.Ticket.{Ticket}
use Rattle.ee_desk_model.specs.declared.replies.Batch.{Batch}
use Rattle.ee_desk_soundness.specs.Marks.{bond_of}
use Rattle.ee_store_contents.specs.declared.reading.Days.{Days}
use Rattle.ee_store_load.specs.declared.whole.AllRows.{AllRows}
use Rattle.ee_store_contents.specs.Inner.Reading.{each, days_in, rates_in, tickets_in, batch_in, parts_in}
use Rattle.ee_store_schema.specs.Forms.{version_of}
use Rattle.ee_store_load.proofs.Lemmas.{bind_some}

pub parts_found : (stored : AllRows) (days : Days) (rates : List RateRow) (tickets : List Ticket) (batches : List Batch)
    → days_in (version_of stored.form) stored.desk.items ≡ Some days → rates_in stored.rates.items stored.extensions.items ≡ Some rates → tickets_in stored.tickets.items stored.lines.items ≡ Some tickets
    → each batch_in stored.batches.items ≡ Some batches
    → Some (record { rates = rates; bonds = map bond_of stored.bonds.items; day = days.day; last_day = days.last_day; tickets = tickets; batches = batches }) ≡ parts_in stored
unfolding parts_in
parts_found stored days rates tickets batches d r t c =
    sym (bind_some (days_in (version_of stored.form) stored.desk.items) days _ _ d
    (bind_some (rates_in stored.rates.items stored.extensions.items) rates _ _ r
    (bind_some (tickets_in stored.tickets.items stored.lines.items) tickets _ _ t
    (bind_some (each batch_in stored.batches.items) batches _ _ c refl))))
