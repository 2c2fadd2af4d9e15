-- The effects of an act, given what it sees.
use Rattle.std.specs.Prelude.{◌-◌, List, [], ◌∷◌, ◌++◌, length, map, filter, is_none, Option, Some, None, if◌then◌else◌}
use Rattle.ee_value.specs.declared.rates.RateRow.{RateRow}
use Rattle.ee_calculator.specs.declared.bonds.Bond.{Bond}
use Rattle.ee_desk_model.specs.declared.acts.Act.{Act}
use Rattle.ee_desk_model.specs.declared.acts.Act.TheVariants.{AddRates, AddBonds, OpenDay, Redeem, CloseDay}
use Rattle.ee_desk_model.specs.declared.refusals.Refusal.{Refusal}
use Rattle.ee_desk_model.specs.declared.replies.Reply.{Reply}
use Rattle.ee_desk_model.specs.declared.replies.Reply.TheVariants.{Added, Opened, Refused}
use Rattle.ee_desk_model.specs.declared.replies.Reply.TheVariants as reply
use Rattle.ee_desk_model.specs.declared.changes.Change.{Change}
use Rattle.ee_desk_model.specs.declared.changes.Change.TheVariants as change
use Rattle.ee_desk_model.specs.declared.changes.Effects.{Effects}
use Rattle.ee_desk_model.specs.Seen.{Seen, ticket_for, closing_batch}
use Rattle.ee_desk_model.specs.Refusals.{known_rate, refusal_of}

-- the rows whose rates are neither in the books nor in an earlier row
abbrev pub new_rates : Seen → List RateRow → List RateRow → List RateRow
new_rates seen earlier [] = []
new_rates seen earlier (row ∷ rows) =
    if is_none (known_rate seen earlier row.from)
    then row ∷ new_rates seen (earlier ++ row ∷ []) rows
    else new_rates seen (earlier ++ row ∷ []) rows

abbrev pub new_bonds : Seen → List Bond → List Bond
new_bonds seen bonds = filter (λ bond. is_none (seen.held bond.serial)) bonds

abbrev pub added : {A : Type 0} → List A → List A → Reply
added new asked = Added (length new) (length asked - length new)

abbrev pub rate_change : RateRow → Change
rate_change row = change.Rates row.from row.rates

-- the effects of an act that isn't refused
abbrev pub accepted : Seen → Act → Effects
accepted seen (AddRates rows) =
    record { changes = map rate_change (new_rates seen [] rows); reply = added (new_rates seen [] rows) rows }
accepted seen (AddBonds bonds) =
    record { changes = map change.Bond (new_bonds seen bonds); reply = added (new_bonds seen bonds) bonds }
accepted seen (OpenDay day) = record { changes = change.Day day ∷ []; reply = Opened day }
accepted seen (Redeem day payee serials) =
    let ticket = ticket_for seen day payee serials in
    record { changes = change.Ticket ticket ∷ []; reply = reply.Ticket ticket }
accepted seen (CloseDay day) =
    let batch = closing_batch seen day in
    record { changes = change.Batch batch ∷ []; reply = reply.Batch batch }

abbrev pub unless_refused : Seen → Act → Option Refusal → Effects
unless_refused seen asked (Some refusal) = record { changes = []; reply = Refused refusal }
unless_refused seen asked None = accepted seen asked

-- the effects of an act: its first refusal, or else what it does
abbrev pub effects_of : Seen → Act → Effects
effects_of seen asked = unless_refused seen asked (refusal_of seen asked)
