-- What is printed of a value, and how that ends.
use Rattle.std.specs.Prelude.{◌≡◌, ℕ, List, Option, Result, Ok, Err, true, false}
use Rattle.ee_io.specs.Written.{WritesFront}
use Rattle.ee_units.specs.declared.denoms.Denom.{Denom}
use Rattle.ee_value.specs.Open.{IsFirstOpen}
use Rattle.ee_value.specs.declared.rates.Rates.{Rates}
use Rattle.ee_cli_value.specs.Printed.{value_line}
use Rattle.ee_cli_value.specs.declared.endings.Outcome.{Outcome}
use Rattle.ee_cli_value.specs.declared.endings.Outcome.TheVariants.{Done, Unsettled}
use Rattle.ee_cli_value.specs.declared.endings.PrintFault.{PrintFault}
use Rattle.ee_cli_value.specs.declared.endings.PrintFault.TheVariants as fault

-- the line of the value is printed, or only its front if the output failed; nothing is printed if memory was refused, or if
-- the rates have an open age at 62 binary places, of which the least is returned
abbrev pub PrintsValue : Denom → ℕ → ℕ → Rates → Option (List ℕ) → Option (List ℕ) → Result Outcome PrintFault → Type 0
PrintsValue denom issued month rates old new (Ok Done) = WritesFront old new (value_line denom issued month rates) true
PrintsValue denom issued month rates old new (Ok (Unsettled age)) = IsFirstOpen rates 62 age × (new ≡ old)
PrintsValue denom issued month rates old new (Err fault.Device) = WritesFront old new (value_line denom issued month rates) false
PrintsValue denom issued month rates old new (Err fault.NoMemory) = new ≡ old
