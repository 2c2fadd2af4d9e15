-- The codes of the readers' faults (this project's rule).
use Rattle.std.specs.Prelude.{ℕ}
use Rattle.ee_units.specs.declared.faults.UnitFault.{UnitFault}
use Rattle.ee_units.specs.declared.faults.UnitFault.TheVariants as fault

abbrev pub code_of : UnitFault → ℕ
code_of fault.BadRate = 1
code_of fault.BadMonth = 2
code_of fault.BadSerial = 3
code_of fault.BadDay = 4
code_of fault.BadDenom = 5
code_of fault.BadCustomer = 6
