-- How a command ends if a device failed.
use Rattle.std.proofs.Common.{◌≡◌, ℕ, Bool, true, false, List, Option, Result, Ok, Err, ◌∙◌, sym, ap, inl, inr}
use Rattle.std.specs.Prelude.{◌⊎◌, if◌then◌else◌, IfErr}
use Rattle.ee_desk_model.specs.declared.replies.Reply.{Reply}
use Rattle.ee_desk_model.specs.declared.refusals.Unserved.TheVariants as unserved
use Rattle.ee_files.specs.declared.faults.FileCode.{FileCode}
use Rattle.ee_files.specs.declared.faults.FileCode.TheVariants.{ReadFailed}
use Rattle.ee_files.specs.declared.faults.FileFault.{FileFault}
use Rattle.ee_counter.specs.Filing.{IsFailedRead}
use Rattle.ee_counter.specs.Serving.{DeviceFailsOnlyIf}
use Rattle.ee_counter.specs.declared.connections.Why.{Why}
use Rattle.ee_counter.specs.declared.connections.Why.TheVariants as why
use Rattle.ee_counter.specs.declared.files.ImportFault.{ImportFault}
use Rattle.ee_counter.specs.declared.files.ImportFault.TheVariants as import
use Rattle.ee_cli_actions.specs.declared.faults.Outcome.{Outcome}
use Rattle.ee_cli_actions.specs.declared.faults.StoreFault.TheVariants.{StoreFailed}
use Rattle.ee_cli_actions.specs.declared.faults.RunFault.{RunFault}
use Rattle.ee_cli_actions.specs.declared.faults.RunFault.TheVariants as fault
use Rattle.ee_cli_actions.specs.Actions.{TellsReply}
use Rattle.ee_cli_actions.specs.Endings.{ending_by}

device_by : (read_may write_may : Type 0) (w : Why) → DeviceFailsOnlyIf read_may write_may w → ending_by w ≡ Err fault.Device → read_may ⊎ write_may
device_by read_may write_may why.ReadFailed h is = inl h
device_by read_may write_may why.WriteFailed h is = inr h
device_by read_may write_may why.Closed h is = absurd (cc)
device_by read_may write_may why.Asked h is = absurd (cc)
device_by read_may write_may why.Limit h is = absurd (cc)
device_by read_may write_may (why.Fault f) h is = absurd (cc)
device_by read_may write_may why.NoMemory h is = absurd (cc)

-- a connection that ended a command as one of a device: its reader or its writer may have failed
pub device_of : (read_may write_may : Type 0) (failed : Bool) (w : Why) → DeviceFailsOnlyIf read_may write_may w
    → (let ended : Result Outcome RunFault = if failed then Err (fault.Store StoreFailed) else ending_by w in ended ≡ Err fault.Device) → read_may ⊎ write_may
device_of read_may write_may true w h is = absurd (cc)
device_of read_may write_may false w h is = device_by read_may write_may w h is

-- the code of a file's fault
code_in : Result Outcome RunFault → FileCode
code_in (Err (fault.File f)) = f.code
code_in _ = ReadFailed

-- a command that tells a failed read of a file: the read may have failed
pub unread_of : (old new : Option (List ℕ)) (may_fail : Type 0) (answer : Result Reply ImportFault) (cause : FileFault)
    → TellsReply old new answer (Err (fault.File cause)) → IfErr answer (λ f. IsFailedRead f → may_fail) → cause.code ≡ ReadFailed → may_fail
unfolding code_in
unread_of old new may_fail (Ok reply) cause told h code = absurd told
unread_of old new may_fail (Err (import.File f)) cause told h code = h (sym (ap code_in told.0) ∙ code)
unread_of old new may_fail (Err (import.Unserved unserved.NoMemory)) cause told h code = absurd (let e = told.0 in cc)
unread_of old new may_fail (Err (import.Unserved unserved.StoreFailed)) cause told h code = absurd (let e = told.0 in cc)
