-- Rows that changes add to maps of rates and of bonds.
use Rattle.std.specs.Prelude.{◌≡◌, ℕ, List, [], ◌∷◌, Option, Some, None, IfSome, ⊤}
use Rattle.std.specs.declared.cmp.Ordering.{Ordering}
use Rattle.std.specs.FinMap as finite
use Rattle.std.specs.FinMap.{FinMap}
use Rattle.ee_units.specs.Spelling.{SerialNumber}
use Rattle.ee_value.specs.declared.rates.Rates.{Rates}
use Rattle.ee_calculator.specs.declared.bonds.Bond.{Bond}
use Rattle.ee_desk_model.specs.declared.changes.Change.{Change}
use Rattle.ee_desk_model.specs.declared.changes.Change.TheVariants as change

-- the row that a change adds to the rates
abbrev pub rate_row : Change → Option (ℕ × Rates)
rate_row (change.Rates from rates) = Some (from, rates)
rate_row (change.Bond bond) = None
rate_row (change.Day day) = None
rate_row (change.Ticket ticket) = None
rate_row (change.Batch batch) = None

-- the row that a change adds to the bonds
abbrev pub bond_row : Change → Option (SerialNumber × Bond)
bond_row (change.Rates from rates) = None
bond_row (change.Bond bond) = Some (bond.serial, bond)
bond_row (change.Day day) = None
bond_row (change.Ticket ticket) = None
bond_row (change.Batch batch) = None

abbrev pub with_row : {K V : Type 0} {R : K → K → Ordering} → FinMap R V → Option (K × V) → FinMap R V
with_row found None = found
with_row found (Some row) = finite.insert found row.0 row.1

-- each key is new, also after the changes before it
abbrev pub AreNew : {K V : Type 0} {R : K → K → Ordering} → (Change → Option (K × V)) → FinMap R V → List Change → Type 0
AreNew row found [] = ⊤
AreNew row found (c ∷ cs) = IfSome (row c) (λ r. finite.get found r.0 ≡ None) × AreNew row (with_row found (row c)) cs
