-- How a command ends that asks for a value.
use Rattle.std.specs.Prelude.{◌≡◌, Result, Err}
use Rattle.ee_cli_value.specs.declared.endings.Outcome.{Outcome}
use Rattle.ee_cli_value.specs.declared.endings.PrintFault.{PrintFault}
use Rattle.ee_cli_value.specs.declared.endings.PrintFault.TheVariants as fault

-- `Device` is answered only if the output may have failed
abbrev pub TellsDeviceOnlyIf : Type 0 → Result Outcome PrintFault → Type 0
TellsDeviceOnlyIf may_fail result = result ≡ Err fault.Device → may_fail
