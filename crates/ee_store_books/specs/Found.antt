-- What was found in the store, as maps.
use Rattle.std.specs.Prelude.{ℕ, List, Option, Some, None}
use Rattle.std.specs.declared.cmp.Ordering.{Ordering}
use Rattle.std.specs.Ordering.{nat_cmp}
use Rattle.std.specs.FinMap as finite
use Rattle.std.specs.FinMap.{FinMap}
use Rattle.ee_units.specs.Spelling.{SerialNumber}
use Rattle.ee_value.specs.declared.rates.Rates.{Rates}
use Rattle.ee_desk_model.specs.declared.changes.Held.{Held}
use Rattle.ee_desk_model.specs.Serials.{serial_cmp}

abbrev pub bonds_found : List (SerialNumber × Held) → FinMap serial_cmp Held
bonds_found found = finite.from_entries found

abbrev pub terms_found : List (ℕ × Rates) → FinMap nat_cmp Rates
terms_found found = finite.from_entries found

-- a map with what is found for one more key, if anything is
abbrev pub with_found : {K V : Type 0} {R : K → K → Ordering} → FinMap R V → K → Option V → FinMap R V
with_found found key None = found
with_found found key (Some value) = finite.insert found key value
