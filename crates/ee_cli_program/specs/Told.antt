-- What is told of why a command failed.
use Rattle.std.specs.Prelude.{◌≡◌, Option, Some, None, Result, Err, ⊤}
use Rattle.std.specs.Result.{IsErr}
use Rattle.ee_files.specs.declared.faults.FileCode.TheVariants.{BadHeader}
use Rattle.ee_files.specs.declared.faults.FileFault.{FileFault}
use Rattle.ee_store_files.specs.declared.causes.OpenCause.{OpenCause}
use Rattle.ee_store_files.specs.declared.causes.OpenCause.TheVariants as opening
use Rattle.ee_cli_actions.specs.declared.faults.RunFault.{RunFault}
use Rattle.ee_cli_actions.specs.declared.faults.RunFault.TheVariants.{File, Store, Device, NoMemory}
use Rattle.ee_cli_actions.specs.declared.faults.StoreFault.TheVariants.{StoreFailed}
use Rattle.ee_cli_actions.specs.declared.faults.Outcome.{Outcome}
use Rattle.ee_cli_program.specs.declared.explaining.Cause.{Cause}
use Rattle.ee_cli_program.specs.declared.explaining.Cause.TheVariants as cause

-- the fault of a store whose files weren't opened
abbrev pub fault_of_cause : OpenCause → RunFault
fault_of_cause opening.NoMemory = NoMemory
fault_of_cause _ = Store StoreFailed

-- the fault is the header of a file
pub record IsHeaderFault (ended : Result Outcome RunFault) : Type 0 where
  pub fault : FileFault
  pub is : ended ≡ Err (File fault)
  pub code : fault.code ≡ BadHeader

-- what wasn't opened or read is told only of a command that failed for it
abbrev pub TellsOnlyIf : Result Outcome RunFault → Option Cause → Type 0
TellsOnlyIf ended (Some (cause.File why)) = IsErr ended
TellsOnlyIf ended (Some (cause.Form form)) = IsHeaderFault ended
TellsOnlyIf ended (Some (cause.Port why)) = ended ≡ Err Device
TellsOnlyIf ended (Some (cause.Store why)) = ended ≡ Err (fault_of_cause why)
TellsOnlyIf ended None = ⊤
