-- Maps of the rates and bonds that are noted for an act.
use Rattle.std.specs.Prelude.{ℕ, List}
use Rattle.std.specs.FinMap as finite
use Rattle.std.specs.FinMap.{FinMap}
use Rattle.std.specs.Ordering.{nat_cmp}
use Rattle.ee_units.specs.Spelling.{SerialNumber}
use Rattle.ee_value.specs.declared.rates.Rates.{Rates}
use Rattle.ee_desk_model.specs.declared.changes.Held.{Held}
use Rattle.ee_desk_model.specs.Serials.{serial_cmp}

abbrev pub rates_in : List (ℕ × Rates) → FinMap nat_cmp Rates
rates_in rates = finite.from_entries rates

abbrev pub held_in : List (SerialNumber × Held) → FinMap serial_cmp Held
held_in bonds = finite.from_entries bonds
