-- Definitions that private contracts alone cite; specs/Told.antt has the others.
use Rattle.std.specs.Prelude.{◌≡◌, ℕ, List, Option, Some, None, Result, Err}
use Rattle.ee_files.specs.Showing.{shown_in}
use Rattle.ee_files.specs.declared.columns.FileColumn.{FileColumn}
use Rattle.ee_files.specs.declared.faults.FileCode.{FileCode}
use Rattle.ee_files.specs.declared.faults.FileCode.TheVariants.{BadHeader, BadValue}
use Rattle.ee_cli_actions.specs.declared.faults.RunFault.{RunFault}
use Rattle.ee_cli_actions.specs.declared.faults.RunFault.TheVariants.{File}
use Rattle.ee_cli_actions.specs.declared.faults.Outcome.{Outcome}
use Rattle.ee_cli_program.specs.Forms.{form_of}
use Rattle.ee_cli_program.specs.declared.forms.Form.{Form}

-- the form of a file of these bytes whose fault is its header
abbrev pub form_at_code : List ℕ → FileCode → Option Form
form_at_code bytes BadHeader = form_of bytes
form_at_code bytes _ = None

abbrev pub form_at_fault : List ℕ → Result Outcome RunFault → Option Form
form_at_fault bytes (Err (File fault)) = form_at_code bytes fault.code
form_at_fault bytes _ = None

-- a field is shown only of a file whose fault is that field
pub record ShowsField (bytes : List ℕ) (ended : Result Outcome RunFault) (shown : List ℕ) : Type 0 where
  pub row : ℕ
  pub column : FileColumn
  pub fault : ended ≡ Err (File (record { row = row; code = BadValue column }))
  pub field : shown_in bytes row column ≡ Some shown
