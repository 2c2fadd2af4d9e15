-- Definitions that private contracts alone cite; specs/Answer.antt has the others.
use Rattle.std.specs.Prelude.{◌≡◌, ◌≢◌, List, Some, IfSome, Result, Ok, Err, string_bytes}
use Rattle.std.specs.Borrow.{Bor}
use Rattle.clap.specs.Words.{Row, Text, first_of}
use Rattle.clap.specs.declared.error.ErrorKind.{ErrorKind}
use Rattle.clap.specs.declared.error.ErrorKind.TheVariants.{DisplayHelp, DisplayVersion, OutOfMemory}
use Rattle.ee_cli_commands.specs.declared.commands.CommandFault.{CommandFault}
use Rattle.ee_cli_commands.specs.declared.commands.CommandFault.TheVariants as fault

-- the value that words spell, seen by view, or the name of the word that spells none
abbrev pub Spells : {X Y : Type 0} → (X → Y) → Result X (Bor Text) → Result Y Text → Type 0
Spells view (Ok x) read = read ≡ Ok (view x)
Spells view (Err name) read = read ≡ Err name.now

-- the same, with a fault that has the name, and the word of the row with that name
abbrev pub Gives : {X Y : Type 0} → (X → Y) → List Row → Result X CommandFault → Result Y Text → Type 0
Gives view rows (Ok x) read = read ≡ Ok (view x)
Gives view rows (Err (fault.Argument name word)) read = (read ≡ Err name.now) × IfSome word (λ w. first_of name.now rows ≡ Some (string_bytes w))
Gives view rows (Err (fault.Help text)) read = ⊥
Gives view rows (Err fault.Version) read = ⊥
Gives view rows (Err (fault.Line text)) read = ⊥
Gives view rows (Err fault.NoMemory) read = ⊥

-- the fault for an error of clap
abbrev pub Refuses : ErrorKind → CommandFault → Type 0
Refuses kind (fault.Help text) = kind ≡ DisplayHelp
Refuses kind fault.Version = kind ≡ DisplayVersion
Refuses kind (fault.Line text) = (kind ≢ OutOfMemory) × (kind ≢ DisplayHelp) × (kind ≢ DisplayVersion)
Refuses kind (fault.Argument name word) = ⊥
Refuses kind fault.NoMemory = kind ≡ OutOfMemory
