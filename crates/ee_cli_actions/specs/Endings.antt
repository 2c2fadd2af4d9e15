-- How a command ends, by what happened.
use Rattle.std.specs.Prelude.{◌≡◌, Result, Ok, Err, if◌then◌else◌}
use Rattle.ee_desk_model.specs.declared.refusals.Unserved.{Unserved}
use Rattle.ee_desk_model.specs.declared.refusals.Unserved.TheVariants as unserved
use Rattle.ee_desk_model.specs.declared.replies.Reply.{Reply}
use Rattle.ee_desk_model.specs.declared.replies.Reply.TheVariants as reply
use Rattle.ee_files.specs.declared.faults.FileCode.TheVariants.{ReadFailed}
use Rattle.ee_files.specs.declared.faults.FileFault.{FileFault}
use Rattle.ee_counter.specs.declared.connections.Ended.{Ended}
use Rattle.ee_counter.specs.declared.connections.Why.{Why}
use Rattle.ee_counter.specs.declared.connections.Why.TheVariants as why
use Rattle.ee_counter.specs.declared.files.ImportFault.{ImportFault}
use Rattle.ee_counter.specs.declared.files.ImportFault.TheVariants as import
use Rattle.ee_cli_value.specs.declared.endings.Outcome as value
use Rattle.ee_cli_value.specs.declared.endings.Outcome.TheVariants as value_outcome
use Rattle.ee_cli_value.specs.declared.endings.PrintFault.{PrintFault}
use Rattle.ee_cli_value.specs.declared.endings.PrintFault.TheVariants as print
use Rattle.ee_cli_actions.specs.declared.faults.Outcome.{Outcome}
use Rattle.ee_cli_actions.specs.declared.faults.Outcome.TheVariants.{Done, Refused, NoMessage, Unsettled}
use Rattle.ee_cli_actions.specs.declared.faults.StoreFault.TheVariants.{StoreFailed}
use Rattle.ee_cli_actions.specs.declared.faults.RunFault.{RunFault}
use Rattle.ee_cli_actions.specs.declared.faults.RunFault.TheVariants as fault

-- how a command ended that printed a value, or found none
abbrev pub outcome_of_value : value.Outcome → Outcome
outcome_of_value value_outcome.Done = Done
outcome_of_value (value_outcome.Unsettled age) = Unsettled age

-- the fault of a value that was not printed
abbrev pub fault_of_print : PrintFault → RunFault
fault_of_print print.Device = fault.Device
fault_of_print print.NoMemory = fault.NoMemory

abbrev pub fault_of_unserved : Unserved → RunFault
fault_of_unserved unserved.NoMemory = fault.NoMemory
fault_of_unserved unserved.StoreFailed = fault.Store StoreFailed

abbrev pub fault_of_import : ImportFault → RunFault
fault_of_import (import.File cause) = fault.File cause
fault_of_import (import.Unserved cause) = fault_of_unserved cause

-- the refusal, if the reply was one
abbrev pub outcome_of : Reply → Outcome
outcome_of (reply.Added new same) = Done
outcome_of (reply.Opened day) = Done
outcome_of (reply.Ticket ticket) = Done
outcome_of (reply.Batch batch) = Done
outcome_of (reply.Refused refusal) = Refused refusal

-- the ending of a command that served one connection on which no answer said that the store failed; a framing fault was
-- answered
abbrev pub ending_by : Why → Result Outcome RunFault
ending_by why.Closed = Ok Done
ending_by why.Asked = Ok Done
ending_by why.Limit = Ok Done
ending_by (why.Fault cause) = Ok NoMessage
ending_by why.ReadFailed = Err fault.Device
ending_by why.WriteFailed = Err fault.Device
ending_by why.NoMemory = Err fault.NoMemory

-- if an answer said that the store failed, the command ends with that
abbrev pub ending_of : Ended → Result Outcome RunFault
ending_of e = if e.store_failed then Err (fault.Store StoreFailed) else ending_by e.why

-- a failed store is reported only if that may have happened
abbrev pub TellsFailureOnlyIf : Type 0 → Result Outcome RunFault → Type 0
TellsFailureOnlyIf may_fail result = result ≡ Err (fault.Store StoreFailed) → may_fail

-- a failed device is reported only if that may have happened
abbrev pub TellsDeviceOnlyIf : Type 0 → Result Outcome RunFault → Type 0
TellsDeviceOnlyIf may_fail result = result ≡ Err fault.Device → may_fail

-- a failed read of the file is reported only if that may have happened
abbrev pub TellsUnreadOnlyIf : Type 0 → Result Outcome RunFault → Type 0
TellsUnreadOnlyIf may_fail result = (cause : FileFault) → result ≡ Err (fault.File cause) → cause.code ≡ ReadFailed → may_fail
