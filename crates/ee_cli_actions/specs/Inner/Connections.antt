-- Definitions that private contracts alone cite; specs/Connections.antt has the others.
use Rattle.std.specs.Prelude.{◌≡◌, ◌≢◌, ℕ, List, [], Option, Result, Ok, Err}
use Rattle.std.specs.Io.KnownBytes.{Appends}
use Rattle.ee_desk_model.specs.Repeats.{Content}
use Rattle.ee_desk_laws.specs.Attempts.{Attempt}
use Rattle.ee_counter.specs.declared.connections.Ended.{Ended}
use Rattle.ee_cli_actions.specs.declared.faults.RunFault.{RunFault}
use Rattle.ee_cli_actions.specs.declared.faults.RunFault.TheVariants.{Device}
use Rattle.ee_cli_actions.specs.Connections.{Comes, ServesStream, WritesSome}

-- of these connections the next one is served, or none came
abbrev pub ServesNext : Option (List (List ℕ)) → Option (List (List ℕ)) → Content → Result Ended RunFault → (Content → List Attempt → Type 0) → Type 0
ServesNext coming others c (Ok e) Has = (sends : Option (List ℕ)) × Comes coming others sends × ServesStream sends c e Has
ServesNext coming others c (Err cause) Has = (cause ≡ Device) × Has c []

-- some of the text is written, and not all of it
abbrev pub WritesNotAll : Option (List ℕ) → Option (List ℕ) → List ℕ → Type 0
WritesNotAll old new text = (some : WritesSome old new text) × (some.rest ≢ [])

-- a line is printed, or not all of it if a device or memory failed
abbrev pub PrintsLine : Option (List ℕ) → Option (List ℕ) → List ℕ → Result (Unit {0}) RunFault → Type 0
PrintsLine old new line (Ok u) = Appends old new line
PrintsLine old new line (Err cause) = WritesNotAll old new line
