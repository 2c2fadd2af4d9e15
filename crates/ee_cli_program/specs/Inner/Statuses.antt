-- Definitions that private contracts alone cite; specs/Statuses.antt has the others.
use Rattle.std.specs.Prelude.{◌≡◌, ◌⊎◌, ℕ, List, Option}
use Rattle.std.specs.Io.KnownBytes.{Appends}
use Rattle.ee_cli_commands.specs.declared.commands.CommandFault.{CommandFault}
use Rattle.ee_cli_commands.specs.declared.commands.CommandFault.TheVariants as fault
use Rattle.ee_cli_program.specs.Statuses.{version_line}

-- the status with which words are answered that ask for no command, and what was printed
abbrev pub IsAnswered : CommandFault → Option (List ℕ) → Option (List ℕ) → ℕ → Type 0
IsAnswered (fault.Help text) old new status = (status ≡ 0) ⊎ (status ≡ 3)
IsAnswered fault.Version old new status = ((status ≡ 0) ⊎ (status ≡ 3)) × (status ≡ 0 → Appends old new version_line)
IsAnswered (fault.Line text) old new status = (status ≡ 2) ⊎ (status ≡ 3)
IsAnswered (fault.Argument name word) old new status = (status ≡ 2) ⊎ (status ≡ 3)
IsAnswered fault.NoMemory old new status = (status ≡ 3) × (new ≡ old)
