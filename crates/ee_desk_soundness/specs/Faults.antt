-- Why parts give no books.
use Rattle.ee_value.specs.declared.faults.ValueFault.{ValueFault}
use Rattle.ee_value.specs.declared.faults.ValueFault.TheVariants as value
use Rattle.ee_desk_soundness.specs.declared.faults.PartsFault.{PartsFault}
use Rattle.ee_desk_soundness.specs.declared.faults.PartsFault.TheVariants.{Unsound, NoMemory}

-- sound books have no rates that leave a value unsettled
abbrev pub fault_of : ValueFault → PartsFault
fault_of (value.Unsettled month) = Unsound
fault_of value.NoMemory = NoMemory
