-- The results of the command line reader.
use Rattle.std.specs.Prelude.{◌≡◌, ◌≢◌, List, [], Some, IfSome, Result, Ok, Err, ⊤, map, option_and_then, string_bytes}
use Rattle.std.specs.Borrow.{Bor}
use Rattle.clap.specs.Words.{IsAmong, Text, fault_of, first_of, subcommand_of}
use Rattle.clap.specs.declared.error.ErrorKind.{ErrorKind}
use Rattle.clap.specs.declared.error.ErrorKind.TheVariants.{DisplayHelp, DisplayVersion}
use Rattle.ee_cli_commands.specs.CommandLine.{Asked, value, apply, imports, export, sheet, serve, asked_by, program, kind_words}
use Rattle.ee_cli_commands.specs.declared.commands.Command.{Command}
use Rattle.ee_cli_commands.specs.declared.commands.Command.TheVariants as command
use Rattle.ee_cli_commands.specs.declared.commands.CommandFault.{CommandFault}
use Rattle.ee_cli_commands.specs.declared.commands.CommandFault.TheVariants as fault

-- a command, as what it asks for
abbrev pub view_of : Command → Asked
view_of (command.Value denom issued month rate extension) = value denom issued month rate extension
view_of (command.Apply db) = apply db.now
view_of (command.Import kind file db desk number) = imports kind file.now db.now desk number
view_of (command.Export customer db) = export customer db.now
view_of (command.Sheet customer month db) = sheet customer month db.now
view_of (command.Serve db port connections) = serve db.now port connections

-- clap reads the words by the program's rows, and this is what they ask for. The words for the kinds of files are behind
-- references, and clap reads the same wherever these point.
pub record IsAsked (words : List Text) (r : Result Asked Text) : Type 0 where
  pub kinds : Bor (List (Bor Text))
  pub kind_words_are : map (λ k. k.now) kinds.now ≡ kind_words
  pub read : fault_of (program kinds) words ≡ []
  pub asks : asked_by (program kinds) words ≡ Some r

-- the word with this name in the row that clap matches
pub record IsWord (words : List Text) (name word : Text) : Type 0 where
  pub kinds : Bor (List (Bor Text))
  pub kind_words_are : map (λ k. k.now) kinds.now ≡ kind_words
  pub found : option_and_then (λ row. first_of name row.1) (subcommand_of (program kinds) words) ≡ Some word

-- clap refuses the words with an error of this kind
pub record IsRefusedBy (kind : ErrorKind) (words : List Text) : Type 0 where
  pub kinds : Bor (List (Bor Text))
  pub kind_words_are : map (λ k. k.now) kinds.now ≡ kind_words
  pub refused : IsAmong kind (fault_of (program kinds) words)

-- the words ask for help
abbrev pub AsksForHelp : List Text → Type 0
AsksForHelp words = IsRefusedBy DisplayHelp words

-- the words ask for the version
abbrev pub AsksForVersion : List Text → Type 0
AsksForVersion words = IsRefusedBy DisplayVersion words

-- clap refuses the words with an error other than want of memory, help and the version
pub record IsRefused (words : List Text) : Type 0 where
  pub kind : ErrorKind
  pub by : IsRefusedBy kind words
  pub no_help : kind ≢ DisplayHelp
  pub no_version : kind ≢ DisplayVersion

-- words ask for at most one thing
abbrev pub AsksForOne : Type 0
AsksForOne = (words : List Text) (r s : Result Asked Text) → IsAsked words r → IsAsked words s → r ≡ s

-- words that ask for something are not refused, and ask neither for help nor for the version
abbrev pub AsksUnrefused : Type 0
AsksUnrefused = (words : List Text) (r : Result Asked Text) (kind : ErrorKind) → IsAsked words r → IsRefusedBy kind words → ⊥

-- words that ask for help are not refused with another error
abbrev pub AsksForHelpAlone : Type 0
AsksForHelpAlone = (words : List Text) → AsksForHelp words → IsRefused words → ⊥

-- words that ask for the version are not refused with another error
abbrev pub AsksForVersionAlone : Type 0
AsksForVersionAlone = (words : List Text) → AsksForVersion words → IsRefused words → ⊥

-- no words ask both for help and for the version
abbrev pub NeverAsksForBoth : Type 0
NeverAsksForBoth = (words : List Text) → AsksForHelp words → AsksForVersion words → ⊥

-- what a result says about the words
abbrev pub IsAnswer : List Text → Result Command CommandFault → Type 0
IsAnswer words (Ok c) = IsAsked words (Ok (view_of c))
IsAnswer words (Err (fault.Argument name word)) = IsAsked words (Err name.now) × IfSome word (λ w. IsWord words name.now (string_bytes w))
IsAnswer words (Err (fault.Help text)) = AsksForHelp words
IsAnswer words (Err fault.Version) = AsksForVersion words
IsAnswer words (Err (fault.Line text)) = IsRefused words
IsAnswer words (Err fault.NoMemory) = ⊤
