-- The effects of acts on the books.
use Rattle.std.specs.Prelude.{Bool, false, ◌&&◌, nat_eq, List, [], ◌∷◌, ◌++◌, Option, Some, None}
use Rattle.std.specs.Cmp.Lexicographic.{pointwise}
use Rattle.std.specs.FinMap as finite
use Rattle.std.specs.FinMap.{FinMap}
use Rattle.std.specs.Ordering.{nat_cmp}
use Rattle.ee_value.specs.declared.rates.RateRow.{RateRow}
use Rattle.ee_calculator.specs.declared.bonds.Bond.{Bond}
use Rattle.ee_desk_model.specs.declared.acts.Act.{Act}
use Rattle.ee_desk_model.specs.declared.acts.Act.TheVariants.{AddRates, AddBonds, OpenDay, Redeem, CloseDay}
use Rattle.ee_desk_model.specs.declared.refusals.Refusal.{Refusal}
use Rattle.ee_desk_model.specs.declared.replies.Reply.{Reply}
use Rattle.ee_desk_model.specs.declared.changes.Change.{Change}
use Rattle.ee_desk_model.specs.declared.changes.Change.TheVariants as change
use Rattle.ee_desk_model.specs.Serials.{serial_cmp, same_serial}
use Rattle.ee_value.specs.declared.rates.Rates.{Rates}
use Rattle.ee_desk_model.specs.Values.{same_rates}
use Rattle.ee_desk_model.specs.PlainBooks.{PlainBooks, same_bond}
use Rattle.ee_desk_model.specs.Seen.{shown, ticket_for, closing_batch}
use Rattle.ee_desk_model.specs.Refusals.{refusal_of}
use Rattle.ee_desk_model.specs.Effects.{new_rates, new_bonds, effects_of}

abbrev pub same_act : Act → Act → Bool
same_act (AddRates xs) (AddRates ys) = pointwise (λ x y. nat_eq x.from y.from && same_rates x.rates y.rates) xs ys
same_act (AddBonds xs) (AddBonds ys) = pointwise same_bond xs ys
same_act (OpenDay d) (OpenDay e) = nat_eq d e
same_act (Redeem d p xs) (Redeem e q ys) = nat_eq d e && nat_eq p q && pointwise same_serial xs ys
same_act (CloseDay d) (CloseDay e) = nat_eq d e
same_act _ _ = false

abbrev pub with_rates : FinMap nat_cmp Rates → List RateRow → FinMap nat_cmp Rates
with_rates rates [] = rates
with_rates rates (row ∷ rows) = with_rates (finite.insert rates row.from row.rates) rows

abbrev pub with_bonds : FinMap serial_cmp Bond → List Bond → FinMap serial_cmp Bond
with_bonds bonds [] = bonds
with_bonds bonds (bond ∷ more) = with_bonds (finite.insert bonds bond.serial bond) more

-- the books after an act that isn't refused
abbrev pub done : PlainBooks → Act → PlainBooks
done books (AddRates rows) = record books { rates = with_rates books.rates (new_rates (shown books) [] rows) }
done books (AddBonds bonds) = record books { bonds = with_bonds books.bonds (new_bonds (shown books) bonds) }
done books (OpenDay day) = record books { day = Some day }
done books (Redeem day payee serials) =
    record books { tickets = books.tickets ++ ticket_for (shown books) day payee serials ∷ [] }
done books (CloseDay day) =
    record books { batches = books.batches ++ closing_batch (shown books) day ∷ []; last_day = Some day; day = None }

abbrev pub unless_refused : PlainBooks → Act → Option Refusal → PlainBooks
unless_refused books asked (Some refusal) = books
unless_refused books asked None = done books asked

-- the books after an act, and its reply
abbrev pub books_after : PlainBooks → Act → PlainBooks
books_after books asked = unless_refused books asked (refusal_of (shown books) asked)

abbrev pub reply_to : PlainBooks → Act → Reply
reply_to books asked = (effects_of (shown books) asked).reply

-- the books after one change
abbrev pub changed : PlainBooks → Change → PlainBooks
changed books (change.Rates from rates) = record books { rates = finite.insert books.rates from rates }
changed books (change.Bond bond) = record books { bonds = finite.insert books.bonds bond.serial bond }
changed books (change.Day day) = record books { day = Some day }
changed books (change.Ticket ticket) = record books { tickets = books.tickets ++ ticket ∷ [] }
changed books (change.Batch batch) =
    record books { batches = books.batches ++ batch ∷ []; last_day = Some batch.day; day = None }

-- the books after changes, applied in order
abbrev pub applied : PlainBooks → List Change → PlainBooks
applied books [] = books
applied books (change ∷ changes) = applied (changed books change) changes
