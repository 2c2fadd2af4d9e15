-- Definitions that private contracts alone cite; specs/Endings.antt has the others.
use Rattle.std.specs.Prelude.{Result, Ok, Err}
use Rattle.ee_value.specs.declared.faults.ValueFault.{ValueFault}
use Rattle.ee_value.specs.declared.faults.ValueFault.TheVariants as value
use Rattle.ee_cli_value.specs.declared.endings.Outcome.{Outcome}
use Rattle.ee_cli_value.specs.declared.endings.Outcome.TheVariants.{Unsettled}
use Rattle.ee_cli_value.specs.declared.endings.PrintFault.{PrintFault}
use Rattle.ee_cli_value.specs.declared.endings.PrintFault.TheVariants as fault

-- the ending if there is no table of values
abbrev pub ending_of_value : ValueFault → Result Outcome PrintFault
ending_of_value (value.Unsettled month) = Ok (Unsettled month)
ending_of_value value.NoMemory = Err fault.NoMemory
