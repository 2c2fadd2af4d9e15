-- The second lines of faults and refusals.
use Rattle.std.specs.Prelude.{List, [], ℕ, Option, Some, None, Result, Ok, Err, ◌++◌, ◌==◌, codes, option_and_then, option_map, if◌then◌else◌}
use Rattle.std.specs.Borrow.{Bor}
use Rattle.std.specs.Fmt.{decimal}
use Rattle.std.specs.declared.io.ErrorKind.{ErrorKind}
use Rattle.std.specs.declared.io.ErrorKind.TheVariants.{Unsupported}
use Rattle.ee_desk_model.specs.Codes.{code_of}
use Rattle.ee_files.specs.Columns.{column_name}
use Rattle.ee_files.specs.declared.columns.FileColumn.{FileColumn}
use Rattle.ee_files.specs.declared.faults.FileCode.{FileCode}
use Rattle.ee_files.specs.declared.faults.FileCode.TheVariants as code
use Rattle.ee_files.specs.declared.faults.FileFault.{FileFault}
use Rattle.ee_store_files.specs.declared.causes.OpenCause.{OpenCause}
use Rattle.ee_store_files.specs.declared.causes.OpenCause.TheVariants as opening
use Rattle.ee_cli_actions.specs.declared.faults.Outcome.{Outcome}
use Rattle.ee_cli_actions.specs.declared.faults.Outcome.TheVariants as outcome
use Rattle.ee_cli_actions.specs.declared.faults.RunFault.{RunFault}
use Rattle.ee_cli_actions.specs.declared.faults.RunFault.TheVariants as fault
use Rattle.ee_cli_actions.specs.declared.faults.StoreFault.{StoreFault}
use Rattle.ee_cli_actions.specs.declared.faults.StoreFault.TheVariants as store
use Rattle.ee_cli_commands.specs.declared.commands.Command.{Command}
use Rattle.ee_cli_commands.specs.declared.commands.Command.TheVariants as command
use Rattle.ee_cli_commands.specs.declared.commands.FileKind.{FileKind}
use Rattle.ee_cli_commands.specs.declared.commands.FileKind.TheVariants as kind
use Rattle.ee_cli_program.specs.Causes.{cause_of_kind, system_text}
use Rattle.ee_cli_program.specs.Forms.{form_text}
use Rattle.ee_cli_program.specs.Spellings.{spelling_text, spelling_of_argument, spelling_of_column}
use Rattle.ee_cli_program.specs.Unpaid.{unpaid_in, unpaid_text}
use Rattle.ee_cli_program.specs.declared.forms.Form.{Form}
use Rattle.ee_cli_program.specs.declared.unpaid.Unpaid.{Unpaid}
use Rattle.ee_cli_program.specs.declared.system.SystemCause.{SystemCause}
use Rattle.ee_cli_program.specs.declared.system.SystemCause.TheVariants.{Folder}
use Rattle.ee_cli_program.specs.declared.explaining.Cause.{Cause}
use Rattle.ee_cli_program.specs.declared.explaining.Cause.TheVariants as cause
use Rattle.ee_cli_program.specs.declared.explaining.Explanation.{Explanation}
use Rattle.ee_cli_program.specs.declared.explaining.Known.{Known}
use Rattle.ee_cli_program.specs.declared.explaining.Explanation.TheVariants as says

-- ---- its text

-- the headers of a kind of file
abbrev pub header_text : FileKind → List ℕ
header_text kind.Rates = codes "from,rate or from,rate,extension"
header_text kind.Inventory = codes "serial,denom,issued,owner,coowner"

-- a cause of the system, or this text if none is known
abbrev pub because : Option SystemCause → List ℕ → List ℕ
because (Some why) otherwise = system_text why
because None otherwise = otherwise

-- what a field is, if that is known
abbrev pub is_text : Option (Bor (List ℕ)) → List ℕ
is_text (Some shown) = codes " is \"" ++ (shown.now ++ codes "\"")
is_text None = []

-- the meaning of a refusal's code for an import, and a remedy
abbrev pub meaning_text : ℕ → List ℕ
meaning_text code = if code == 10 then codes "this desk has sent another request under this number"
    else (if code == 11 then codes "it has no rows"
    else (if code == 12 then codes "it has more than 500 rows; send it in parts"
    else (if code == 13 then codes "it has a serial number twice; leave one of the rows out"
    else (if code == 14 then codes "it has a bond whose coowner is its owner; name another coowner, or none"
    else (if code == 20 then codes "rates hold from a May or a November; correct the month"
    else (if code == 21 then codes "a month has other rates, in the books or in an earlier row; compare them with Treasury's announcement"
    else (if code == 22 then codes "a value at these rates can't be settled to the cent; compare them with Treasury's announcement"
    else (if code == 30 then codes "no rates are entered for a bond's issue month; enter them first"
    else (if code == 31 then codes "a bond is registered with other content; compare it with the paper"
    else codes "the books refuse it")))))))))

-- the form of a file, if it is known, and how to save it
abbrev pub saving_text : Option Form → List ℕ
saving_text (Some form) = codes ": " ++ (form_text form ++ codes "; save it as CSV, in UTF-8 and with commas")
saving_text None = codes "; correct it"

-- why a store wasn't opened, and what to do
abbrev pub opening_text : OpenCause → List ℕ
opening_text opening.NoMemory = codes "memory was refused; run the line again"
opening_text opening.NoFile = codes "SQLite takes it for no file; put ./ in front of it"
opening_text opening.InUse = codes "another process uses it; send requests to that process, or end it first"
opening_text opening.Journal = codes "a rollback journal of SQLite lies beside it; open it with sqlite3 first"
opening_text (opening.System Unsupported) = codes "it is not one regular file with one name; correct the path, or remove the other name"
opening_text (opening.System k) = because (cause_of_kind k) (codes "the system refused it") ++ codes "; look at the path, and at who may use the file and its folder"
opening_text opening.NoRandom = codes "the system gave no random number; run the line again"
opening_text opening.NoDatabase = codes "it is no SQLite database; correct the path"
opening_text opening.Orphaned = codes "it is missing or empty, and its log shows that it was there; put the file back next to its log"
opening_text opening.Damaged = codes "it or its log is damaged, or a page's checksum is wrong; restore a copy"
opening_text opening.Full = codes "no space left on the disk; make room, and run the line again"
opening_text opening.Failed = codes "a read or a write of it failed; look at the disk, and run the line again"

-- the line, without its end
abbrev pub explanation_text : Explanation → List ℕ
explanation_text (says.Argument name word spelling) = name.now ++ (is_text word ++ (codes ": " ++ spelling_text spelling))
explanation_text (says.Refused file code) = file.now ++ (codes ": " ++ (meaning_text code ++ codes "; nothing was changed, and the next try needs a new number"))
explanation_text (says.Header file k form) = file.now ++ (codes ": the first row is not " ++ (header_text k ++ (saving_text form ++ codes ", and send the file again")))
explanation_text (says.FieldCount file row) = file.now ++ (codes ": row " ++ (decimal row ++ codes " has not one field for each column; correct it, and send the file again"))
explanation_text (says.Field file row column shown) = file.now ++ (codes ": row " ++ (decimal row ++ (codes ", column " ++ (column_name column ++ (is_text shown ++ (codes ": "
    ++ (spelling_text (spelling_of_column column) ++ codes "; correct it, and send the file again")))))))
explanation_text (says.Unpaid file row column shown why) = file.now ++ (codes ": row " ++ (decimal row ++ (codes ", column " ++ (column_name column ++ (codes " is \""
    ++ (shown.now ++ (codes "\": " ++ (unpaid_text why ++ codes ", which this counter doesn't pay; send it to Treasury with FS Form 1522, and the file again without it"))))))))
explanation_text (says.Folder file) = file.now ++ codes ": it is a folder; name a file in it"
explanation_text (says.Unread file why) = file.now ++ (codes ": " ++ (because why (codes "a read failed") ++ codes "; send the file again"))
explanation_text (says.TooLong file) = file.now ++ codes ": it has more than 1048576 bytes; send it in parts, each under a number of its own"
explanation_text (says.NoFile file why) = file.now ++ (codes ": " ++ (because why (codes "it was not opened") ++ codes "; correct the path, and send the file again"))
explanation_text (says.NoPort port why) = codes "port " ++ (decimal port ++ (codes ": " ++ (because why (codes "it was not opened") ++ codes "; choose another port, or end what uses it")))
explanation_text (says.Output why) = codes "standard output: " ++ (because why (codes "a write failed") ++ codes "; run the line again: what was decided gets its reply")
explanation_text (says.Answers why) = codes "standard output: " ++ (because why (codes "a write failed") ++ codes "; send again: what was decided gets its reply")
explanation_text (says.Input why) = codes "standard input: " ++ (because why (codes "a read failed") ++ codes "; send again: what was decided gets its reply")
explanation_text (says.Log why) = codes "standard output: " ++ (because why (codes "a write failed") ++ codes "; start the server again")
explanation_text says.InputOrOutput = codes "standard input or output failed; send again: what was decided gets its reply"
explanation_text says.Connections = codes "no connection was accepted, or standard output failed; start the server again"
explanation_text (says.Unopened path why) = path.now ++ (codes ": " ++ opening_text why)
explanation_text (says.StoreFailed path) = path.now ++ codes ": a read or a write of it failed; look at the disk, and send the same requests again"
explanation_text (says.WrongVersion path) = path.now ++ codes ": its version is neither 2 nor 1; use the program that made it"
explanation_text (says.Unusable path) = path.now ++ codes ": its tables or rows are not those of this program; restore a copy"
explanation_text (says.NotWrittenBack path) = path.now ++ codes ": the work is done, and is kept in the file and its log together; look at the disk"
explanation_text says.NoMemory = codes "memory was refused; run the line again"

-- ---- which it is

-- of a word with this name that spells no value
abbrev pub of_argument : Bor (List ℕ) → Option (Bor (List ℕ)) → Option Explanation
of_argument name word = option_map (says.Argument name word) (spelling_of_argument name.now)

-- of a refused import
abbrev pub of_refusal : Command → ℕ → Option Explanation
of_refusal (command.Import k file db desk number) code = Some (says.Refused file code)
of_refusal _ code = None

-- the cause of an error of this kind, if there was one
abbrev pub of_kind : Option ErrorKind → Option SystemCause
of_kind kind = option_and_then cause_of_kind kind

-- of a server that ended: its output failed, or it accepted no connection
abbrev pub of_serving : Option ErrorKind → Explanation
of_serving (Some kind) = says.Log (cause_of_kind kind)
of_serving None = says.Connections

-- of the two streams of a connection
abbrev pub of_streams : Option ErrorKind → Option ErrorKind → Explanation
of_streams input (Some kind) = says.Answers (cause_of_kind kind)
of_streams (Some kind) None = says.Input (cause_of_kind kind)
of_streams None None = says.InputOrOutput

-- of a file that wasn't opened, or an output that failed
abbrev pub of_importing : Bor (List ℕ) → Option Cause → Option ErrorKind → Explanation
of_importing file (Some (cause.File why)) output = says.NoFile file why
of_importing file noted output = says.Output (of_kind output)

-- of a port that wasn't bound, or a server that ended
abbrev pub of_port : ℕ → Option Cause → Option ErrorKind → Explanation
of_port port (Some (cause.Port why)) output = says.NoPort port why
of_port port noted output = of_serving output

-- of a failed device: what wasn't opened, or the streams that the command uses
abbrev pub of_device : Command → Known → Explanation
of_device (command.Import k file db desk number) known = of_importing file known.cause known.output
of_device (command.Serve db port connections) known = of_port port known.cause known.output
of_device (command.Apply db) known = of_streams known.input known.output
of_device (command.Value denom issued month rate extension) known = says.Output (of_kind known.output)
of_device (command.Export customer db) known = says.Output (of_kind known.output)
of_device (command.Sheet customer month db) known = says.Output (of_kind known.output)

-- why a file was not read
abbrev pub of_reading : Option Cause → Option SystemCause
of_reading (Some (cause.File why)) = why
of_reading noted = None

-- the form of a file, if it is known
abbrev pub form_in : Option Cause → Option Form
form_in (Some (cause.Form form)) = Some form
form_in noted = None

-- of a file that was opened, and not read
abbrev pub of_unread : Bor (List ℕ) → Option SystemCause → Explanation
of_unread file (Some Folder) = says.Folder file
of_unread file why = says.Unread file why

-- of a field that spells no value, which may be that of genuine paper
abbrev pub unless_unpaid : Bor (List ℕ) → ℕ → FileColumn → Bor (List ℕ) → Option Unpaid → Explanation
unless_unpaid file row column field (Some why) = says.Unpaid file row column field why
unless_unpaid file row column field None = says.Field file row column (Some field)

abbrev pub of_value : Bor (List ℕ) → ℕ → FileColumn → Option (Bor (List ℕ)) → Explanation
of_value file row column (Some field) = unless_unpaid file row column field (unpaid_in column field.now)
of_value file row column None = says.Field file row column None

abbrev pub by_code : FileKind → Bor (List ℕ) → ℕ → FileCode → Option Cause → Option (Bor (List ℕ)) → Explanation
by_code k file row code.BadHeader noted shown = says.Header file k (form_in noted)
by_code k file row code.WrongFieldCount noted shown = says.FieldCount file row
by_code k file row (code.BadValue column) noted shown = of_value file row column shown
by_code k file row code.ReadFailed noted shown = of_unread file (of_reading noted)
by_code k file row code.NoMemory noted shown = says.NoMemory
by_code k file row code.FileTooLong noted shown = says.TooLong file

-- of a fault in a file of this kind
abbrev pub in_file : FileKind → Bor (List ℕ) → FileFault → Known → Explanation
in_file k file f known = by_code k file f.row f.code known.cause known.field

-- of a fault in the file of an import
abbrev pub of_file : Command → FileFault → Known → Option Explanation
of_file (command.Import k file db desk number) f known = Some (in_file k file f known)
of_file _ f known = None

-- of a fault of this store
abbrev pub in_store : Bor (List ℕ) → StoreFault → Option Cause → Explanation
in_store path store.StoreFailed (Some (cause.Store why)) = says.Unopened path why
in_store path store.StoreFailed noted = says.StoreFailed path
in_store path store.WrongVersion noted = says.WrongVersion path
in_store path store.Unusable noted = says.Unusable path
in_store path store.NotWrittenBack noted = says.NotWrittenBack path

-- of a fault of the store
abbrev pub of_store : Command → StoreFault → Option Cause → Option Explanation
of_store (command.Value denom issued month rate extension) f noted = None
of_store (command.Apply db) f noted = Some (in_store db f noted)
of_store (command.Import k file db desk number) f noted = Some (in_store db f noted)
of_store (command.Export customer db) f noted = Some (in_store db f noted)
of_store (command.Sheet customer month db) f noted = Some (in_store db f noted)
of_store (command.Serve db port connections) f noted = Some (in_store db f noted)

-- of a command's fault
abbrev pub of_fault : Command → RunFault → Known → Option Explanation
of_fault line fault.NoMemory known = Some says.NoMemory
of_fault line fault.Device known = Some (of_device line known)
of_fault line (fault.File f) known = of_file line f known
of_fault line (fault.Store f) known = of_store line f known.cause

-- what the second line of a command says that ended so
abbrev pub explanation_of : Command → Result Outcome RunFault → Known → Option Explanation
explanation_of line (Ok (outcome.Refused refusal)) known = of_refusal line (code_of refusal)
explanation_of line (Ok ended) known = None
explanation_of line (Err f) known = of_fault line f known
