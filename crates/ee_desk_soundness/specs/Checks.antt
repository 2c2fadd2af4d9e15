-- What is checked about parts.
use Rattle.std.specs.Prelude.{◌≡◌, ◌<◌, ℕ, List, [], ◌∷◌, map, Option, ⊤}
use Rattle.std.specs.List.{AllByRecursion}
use Rattle.std.specs.declared.cmp.Ordering.TheVariants.{Less}
use Rattle.std.specs.FinMap as finite
use Rattle.std.specs.FinMap.{FinMap}
use Rattle.std.specs.Ordering.{nat_cmp}
use Rattle.ee_units.specs.Spelling.{SerialNumber}
use Rattle.ee_value.specs.declared.rates.Rates.{Rates}
use Rattle.ee_value.specs.declared.rates.RateRow.{RateRow}
use Rattle.ee_calculator.specs.declared.bonds.Bond.{Bond}
use Rattle.ee_desk_model.specs.Serials.{serial_cmp}
use Rattle.ee_desk_model.specs.declared.replies.Batch.{Batch}
use Rattle.ee_desk_model.specs.declared.replies.Ticket.{Ticket}
use Rattle.ee_desk_model.specs.PlainBooks.{PlainBooks}
use Rattle.ee_desk_model.specs.Sound.{IsSound}
use Rattle.ee_desk_soundness.specs.Parts.{Parts}

abbrev pub entry_of_row : RateRow → ℕ × Rates
entry_of_row row = (row.from, row.rates)

abbrev pub entry_of_bond : Bond → SerialNumber × Bond
entry_of_bond bond = (bond.serial, bond)

-- the rates of rows, by month
abbrev pub rates_in : List RateRow → FinMap nat_cmp Rates
rates_in rows = finite.from_entries (map entry_of_row rows)

-- bonds by their serials
abbrev pub bonds_in : List Bond → FinMap serial_cmp Bond
bonds_in bonds = finite.from_entries (map entry_of_bond bonds)

-- each element is related so to all after it
abbrev pub InOrder : {K : Type 0} → (K → K → Type 0) → List K → Type 0
InOrder R [] = ⊤
InOrder R (k ∷ ks) = AllByRecursion (R k) ks × InOrder R ks

abbrev pub IsBefore : SerialNumber → SerialNumber → Type 0
IsBefore one other = serial_cmp one other ≡ Less

-- each month is before those after it in the list
abbrev pub HaveRisingMonths : List RateRow → Type 0
HaveRisingMonths rows = InOrder ◌<◌ (map (λ row. row.from) rows)

-- each serial number is before those after it in the list
abbrev pub HaveRisingSerials : List Bond → Type 0
HaveRisingSerials bonds = InOrder IsBefore (map (λ bond. bond.serial) bonds)

-- the books that parts represent
abbrev pub books_of : Parts → PlainBooks
books_of parts = record {
  rates = rates_in parts.rates;
  bonds = bonds_in parts.bonds;
  day = parts.day;
  last_day = parts.last_day;
  tickets = parts.tickets;
  batches = parts.batches;
}

-- the parts of sound books
pub record AreSound (parts : Parts) : Type 0 where
  pub months : HaveRisingMonths parts.rates
  pub serials : HaveRisingSerials parts.bonds
  pub books : IsSound (books_of parts)

abbrev pub parts_in : List RateRow → List Bond → Option ℕ → Option ℕ → List Ticket → List Batch → Parts
parts_in rates bonds day last tickets batches =
    record { rates = rates; bonds = bonds; day = day; last_day = last; tickets = tickets; batches = batches }
