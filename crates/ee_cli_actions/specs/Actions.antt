-- What the commands over a store do, given a content of the store. `Has` is the relation of contents that it then has, and of
-- the attempts that led there.
use Rattle.std.specs.Prelude.{◌≡◌, ℕ, List, Option, Result, Ok, Err, true, false}
use Rattle.ee_io.specs.Written.{WritesFront}
use Rattle.ee_calculator.specs.Sheets.{sheet_text}
use Rattle.ee_calculator.specs.declared.sheets.Sheet.{Sheet}
use Rattle.ee_desk_model.specs.Numbers.{RequestKey}
use Rattle.ee_desk_model.specs.Repeats.{Content}
use Rattle.ee_desk_model.specs.declared.acts.Act.TheVariants as act
use Rattle.ee_desk_model.specs.declared.replies.Reply.{Reply}
use Rattle.ee_desk_model.specs.declared.refusals.Unserved.{Unserved}
use Rattle.ee_desk_laws.specs.Attempts.{Attempt}
use Rattle.ee_files.specs.RateFile.{rates_of_file}
use Rattle.ee_files.specs.BondFile.{bonds_of_file}
use Rattle.ee_desk_model.specs.Queries.{IsInventory}
use Rattle.ee_desk_model.specs.declared.acts.Request.{Request}
use Rattle.ee_keeper.specs.Keeping.{Shows}
use Rattle.ee_counter.specs.Filing.{Imports, Exports, FitRows}
use Rattle.ee_counter.specs.Serving.{Serves}
use Rattle.ee_counter.specs.declared.connections.Ended.{Ended}
use Rattle.ee_counter.specs.declared.files.ImportFault.{ImportFault}
use Rattle.ee_counter.specs.declared.files.ExportFault.{ExportFault}
use Rattle.ee_counter.specs.declared.files.ExportFault.TheVariants as export
use Rattle.ee_cli_commands.specs.declared.commands.FileKind.{FileKind}
use Rattle.ee_cli_commands.specs.declared.commands.FileKind.TheVariants as kind
use Rattle.ee_cli_actions.specs.Endings.{fault_of_import, fault_of_unserved, outcome_of, ending_of}
use Rattle.ee_cli_actions.specs.Printed.{reply_line}
use Rattle.ee_cli_actions.specs.declared.faults.Outcome.{Outcome}
use Rattle.ee_cli_actions.specs.declared.faults.Outcome.TheVariants.{Done}
use Rattle.ee_cli_actions.specs.declared.faults.RunFault.{RunFault}
use Rattle.ee_cli_actions.specs.declared.faults.RunFault.TheVariants as fault

-- the input is served as one connection, and this is left of it: the responses to its stream are written, and the command ends
-- as the connection did
abbrev pub Applies : Option (List ℕ) → Option (List ℕ) → Option (List ℕ) → Option (List ℕ) → Content → Result Outcome RunFault → (Content → List Attempt → Type 0) → Type 0
Applies input left old new c result Has = (ended : Ended) × Serves input left old new c ended Has × (result ≡ ending_of ended)

-- the rows of a file of this kind are one request under the number, or nothing is delivered
abbrev pub ImportsFile : FileKind → Option (List ℕ) → RequestKey → Content → Result Reply ImportFault → (Content → List Attempt → Type 0) → Type 0
ImportsFile kind.Rates file number c answer Has = Imports rates_of_file act.AddRates file number c answer Has
ImportsFile kind.Inventory file number c answer Has = Imports bonds_of_file act.AddBonds file number c answer Has

-- the texts of a request of such a file's rows fit the store
abbrev pub FitFile : FileKind → (Content → Request → Type 0) → Content → RequestKey → Type 0
FitFile kind.Rates fits c number = FitRows fits c number act.AddRates
FitFile kind.Inventory fits c number = FitRows fits c number act.AddBonds

-- the line of the reply is printed; only its front if the output failed; nothing if memory was refused; a fault prints nothing
abbrev pub TellsReply : Option (List ℕ) → Option (List ℕ) → Result Reply ImportFault → Result Outcome RunFault → Type 0
TellsReply old new (Ok reply) (Ok outcome) = WritesFront old new (reply_line reply) true × (outcome ≡ outcome_of reply)
TellsReply old new (Ok reply) (Err fault.Device) = WritesFront old new (reply_line reply) false
TellsReply old new (Ok reply) (Err fault.NoMemory) = new ≡ old
TellsReply old new (Ok reply) (Err (fault.File cause)) = ⊥
TellsReply old new (Ok reply) (Err (fault.Store cause)) = ⊥
TellsReply old new (Err cause) result = (result ≡ Err (fault_of_import cause)) × (new ≡ old)

-- the file is imported, and its reply is printed
abbrev pub ImportsInto : FileKind → Option (List ℕ) → Option (List ℕ) → Option (List ℕ) → RequestKey → Content → Result Outcome RunFault → (Content → List Attempt → Type 0) → Type 0
ImportsInto kind file old new number c result Has =
    (answer : Result Reply ImportFault) × ImportsFile kind file number c answer Has × TellsReply old new answer result

-- the ending of a command by that of an export
abbrev pub ending_of_export : Result ℕ ExportFault → Result Outcome RunFault
ending_of_export (Ok count) = Ok Done
ending_of_export (Err export.WriteFailed) = Err fault.Device
ending_of_export (Err (export.Unserved cause)) = Err (fault_of_unserved cause)

-- the customer's unpaid bonds are written as a file; only its front if the output failed; or nothing
abbrev pub ExportsFrom : Option (List ℕ) → Option (List ℕ) → ℕ → Content → Result Outcome RunFault → (Content → List Attempt → Type 0) → Type 0
ExportsFrom old new customer c result Has =
    (answer : Result ℕ ExportFault) × Exports old new customer c answer Has × (result ≡ ending_of_export answer)

-- what is printed of a sheet that was shown, or not
abbrev pub TellsSheet : Option (List ℕ) → Option (List ℕ) → Result Sheet Unserved → Result Outcome RunFault → Type 0
TellsSheet old new (Ok sheet) (Ok outcome) = WritesFront old new (sheet_text sheet) true × (outcome ≡ Done)
TellsSheet old new (Ok sheet) (Err cause) = WritesFront old new (sheet_text sheet) false × (cause ≡ fault.Device)
TellsSheet old new (Err cause) result = (result ≡ Err (fault_of_unserved cause)) × (new ≡ old)

-- the sheet of the customer's unpaid bonds in the month is written; only its front if the output failed; or nothing
abbrev pub ShowsSheet : Option (List ℕ) → Option (List ℕ) → ℕ → ℕ → Content → Result Outcome RunFault → Type 0 → Type 0
ShowsSheet old new customer month c result Stays =
    (shown : Result Sheet Unserved) × Shows (IsInventory c.books customer month) shown Stays × TellsSheet old new shown result
