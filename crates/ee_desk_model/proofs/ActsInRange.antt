-- An act whose numbers are in range changes the books to numbers in range.
use Rattle.std.proofs.Common.{Bool, true, false, cond, List, [], ◌∷◌, ◌++◌, map, Option, Some, None}
use Rattle.std.specs.Option.{is_none}
use Rattle.std.specs.List.{AllByRecursion}
use Rattle.ee_value.specs.Chain.{InRange}
use Rattle.ee_value.specs.declared.rates.RateRow.{RateRow}
use Rattle.ee_calculator.specs.declared.bonds.Bond.{Bond}
use Rattle.ee_desk_model.specs.declared.acts.Act.{Act}
use Rattle.ee_desk_model.specs.declared.acts.Act.TheVariants.{AddRates, AddBonds, OpenDay, Redeem, CloseDay}
use Rattle.ee_desk_model.specs.declared.refusals.Refusal.{Refusal}
use Rattle.ee_desk_model.specs.declared.changes.Change.TheVariants as change
use Rattle.ee_desk_model.specs.PlainBooks.{PlainBooks}
use Rattle.ee_desk_model.specs.Seen.{Seen, shown}
use Rattle.ee_desk_model.specs.Refusals.{known_rate, refusal_of}
use Rattle.ee_desk_model.specs.Effects.{new_rates, new_bonds, rate_change, accepted, unless_refused, effects_of}
use Rattle.ee_desk_model.specs.Ranges.{IsInRange, IsActInRange}
use Rattle.ee_desk_model.specs.Sound.{IsSound, IsIssueMonth}
use Rattle.ee_desk_model.specs.Acts.{books_after}
use Rattle.ee_desk_model.proofs.Soundness.{act_sound}

abbrev IsRowInRange : RateRow → Type 0
IsRowInRange row = IsIssueMonth row.from × InRange row.rates

rates_in_range : (seen : Seen) (earlier rows : List RateRow) → AllByRecursion IsRowInRange rows → AllByRecursion IsInRange (map rate_change (new_rates seen earlier rows))
rates_in_range seen earlier [] h = tt
rates_in_range seen earlier (row ∷ rows) h =
    either (is_none (known_rate seen earlier row.from)) (new_rates seen (earlier ++ row ∷ []) rows) (rates_in_range seen (earlier ++ row ∷ []) rows h.1)
  where
    either : (b : Bool) (rest : List RateRow) → AllByRecursion IsInRange (map rate_change rest) → AllByRecursion IsInRange (map rate_change (cond b (row ∷ rest) rest))
    either true rest there = (h.0, there)
    either false rest there = there

bonds_in_range : (seen : Seen) (bonds : List Bond) → AllByRecursion (λ bond. IsIssueMonth bond.issued) bonds → AllByRecursion IsInRange (map change.Bond (new_bonds seen bonds))
bonds_in_range seen [] h = tt
bonds_in_range seen (bond ∷ bonds) h = either (is_none (seen.held bond.serial)) (new_bonds seen bonds) (bonds_in_range seen bonds h.1)
  where
    either : (b : Bool) (rest : List Bond) → AllByRecursion IsInRange (map change.Bond rest) → AllByRecursion IsInRange (map change.Bond (cond b (bond ∷ rest) rest))
    either true rest there = (h.0, there)
    either false rest there = there

accepted_in_range : (seen : Seen) (asked : Act) → IsActInRange asked → AllByRecursion IsInRange (accepted seen asked).changes
accepted_in_range seen (AddRates rows) h = rates_in_range seen [] rows h
accepted_in_range seen (AddBonds bonds) h = bonds_in_range seen bonds h
accepted_in_range seen (OpenDay day) h = (h, tt)
accepted_in_range seen (Redeem day payee serials) h = (tt, tt)
accepted_in_range seen (CloseDay day) h = (tt, tt)

pub effects_in_range : (seen : Seen) (asked : Act) → IsActInRange asked → AllByRecursion IsInRange (effects_of seen asked).changes
effects_in_range seen asked h = unless (refusal_of seen asked)
  where
    unless : (o : Option Refusal) → AllByRecursion IsInRange (unless_refused seen asked o).changes
    unless None = accepted_in_range seen asked h
    unless (Some refusal) = tt

pub stays_sound : (books : PlainBooks) (asked : Act) → IsSound books → IsActInRange asked → IsSound (books_after books asked)
stays_sound books asked sound h = act_sound books asked sound (effects_in_range (shown books) asked h)
