-- Why there is no table of unit values.
use Rattle.std.specs.Prelude.{◌≡◌, ℕ, Option, Some}
use Rattle.ee_value.specs.declared.rates.Rates.{Rates}
use Rattle.ee_value.specs.declared.faults.ValueFault.{ValueFault}
use Rattle.ee_value.specs.declared.faults.ValueFault.TheVariants.{Unsettled, NoMemory}
use Rattle.ee_value.specs.Open.{IsFirstOpen}

-- unsettled rates are reported by their least open age
abbrev pub IsFaultOf : Rates → ℕ → ValueFault → Type 0
IsFaultOf rates b (Unsettled month) = IsFirstOpen rates b month
IsFaultOf rates b NoMemory = Unit {0}

-- the same, by the age that `first_open` finds
abbrev pub IsFaultAt : Option ℕ → ValueFault → Type 0
IsFaultAt first (Unsettled month) = first ≡ Some month
IsFaultAt first NoMemory = Unit {0}
