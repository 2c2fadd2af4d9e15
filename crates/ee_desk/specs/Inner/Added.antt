-- Rows of changes in a map in memory: added one after another or in two turns, and removed again.
use Rattle.std.specs.Prelude.{◌≡◌, ◌||◌, Bool, false, List, [], ◌∷◌, Option, Some, None}
use Rattle.std.specs.Option.{option_map_or}
use Rattle.std.specs.Ordering.{eq_by_cmp}
use Rattle.std.specs.declared.cmp.Ordering.{Ordering}
use Rattle.std.specs.FinMap as finite
use Rattle.std.specs.FinMap.{FinMap}
use Rattle.ee_units.specs.Spelling.{SerialNumber}
use Rattle.ee_desk_model.specs.declared.changes.Held.{Held}
use Rattle.ee_desk_model.specs.declared.changes.Change.{Change}
use Rattle.ee_desk_model.specs.declared.changes.Change.TheVariants as change
use Rattle.ee_desk_decide.specs.Inner.NewRows.{with_row}

-- the row that a change adds to the bonds in memory
abbrev pub held_row : Change → Option (SerialNumber × Held)
held_row (change.Rates from rates) = None
held_row (change.Bond bond) = Some (bond.serial, record { bond = bond; ticket = None })
held_row (change.Day day) = None
held_row (change.Ticket ticket) = None
held_row (change.Batch batch) = None

abbrev pub without_row : {K V : Type 0} {R : K → K → Ordering} → FinMap R V → Option (K × V) → FinMap R V
without_row found None = found
without_row found (Some row) = finite.remove found row.0

abbrev pub with_changes : {K V : Type 0} {R : K → K → Ordering} → (Change → Option (K × V)) → FinMap R V → List Change → FinMap R V
with_changes row found [] = found
with_changes row found (c ∷ cs) = with_changes row (with_row found (row c)) cs

abbrev pub without_changes : {K V : Type 0} {R : K → K → Ordering} → (Change → Option (K × V)) → FinMap R V → List Change → FinMap R V
without_changes row found [] = found
without_changes row found (c ∷ cs) = without_changes row (without_row found (row c)) cs

-- ---- in two turns

-- the first element, the third, and so on
abbrev pub every_second : {X : Type 0} → List X → List X
every_second [] = []
every_second (x ∷ []) = x ∷ []
every_second (x ∷ y ∷ rest) = x ∷ every_second rest

-- a row has the key
abbrev pub is_row : {K V : Type 0} (R : K → K → Ordering) → K → Option (K × V) → Bool
is_row R q added = option_map_or (λ r. eq_by_cmp R q r.0) added false

-- one of the changes adds a row under the key
abbrev pub adds_at : {K V : Type 0} (R : K → K → Ordering) → (Change → Option (K × V)) → K → List Change → Bool
adds_at R row q [] = false
adds_at R row q (c ∷ cs) = is_row R q (row c) || adds_at R row q cs

-- two maps agree on each key that none of the changes adds
abbrev pub AgreeBeside : {K V : Type 0} {R : K → K → Ordering} → (Change → Option (K × V)) → List Change → FinMap R V → FinMap R V → Type 0
AgreeBeside {K} {R = R} row cs m n = (q : K) → adds_at R row q cs ≡ false → finite.get m q ≡ finite.get n q
