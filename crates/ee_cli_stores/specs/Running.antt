-- What a command line did over two files, and how the files may be found after it.
use Rattle.std.specs.Prelude.{◌≡◌, ◌⊎◌, ℕ, List, [], Option, Result}
use Rattle.clap.specs.Words.{Text}
use Rattle.std.specs.Result.{IsErr}
use Rattle.sqlite_disk.specs.declared.Disk.{Ghosts}
use Rattle.sqlite_disk.specs.declared.Files.{Files}
use Rattle.sqlite.specs.declared.FileStore.{FileStore}
use Rattle.sqlite.specs.FileStore.{state, view}
use Rattle.sqlite.specs.Files.{IsCleanLeft}
use Rattle.sqlite.specs.Recovery.{Image}
use Rattle.sqlite.specs.View.{IsClean}
use Rattle.sqlite.specs.WalReads.{AreClean}
use Rattle.ee_desk_model.specs.Repeats.{Content}
use Rattle.ee_desk_laws.specs.Attempts.{Attempt}
use Rattle.ee_store.specs.Holding.{IsNumberedLeft, MayBeLeft}
use Rattle.ee_store.specs.History.{AreFoundAs}
use Rattle.ee_store.specs.NextRun.{HoldsContent, IsNumberedStore}
use Rattle.ee_cli_actions.specs.Actions.{Applies, ExportsFrom, ImportsInto, ShowsSheet}
use Rattle.ee_cli_actions.specs.Connections.{ServesAll}
use Rattle.ee_cli_actions.specs.declared.faults.RunFault.{RunFault}
use Rattle.ee_cli_actions.specs.declared.faults.Outcome.{Outcome}
use Rattle.ee_cli_commands.specs.CommandLine.{Asked, value, apply, imports, export, sheet, serve}
use Rattle.ee_cli_program.specs.Stores.{Tries, unwritten}
use Rattle.ee_cli_program.specs.declared.stores.Left.{Left}
use Rattle.ee_cli_program.specs.declared.stores.Left.TheVariants as stores
use Rattle.ee_cli_stores.specs.declared.files.Refused.{Refused}
use Rattle.ee_cli_stores.specs.declared.files.Refused.TheVariants as refused
use Rattle.ee_cli_stores.specs.declared.files.Unclosed.{Unclosed}
use Rattle.ee_cli_stores.specs.Lines.{LineLeads, LineWaits}

-- ---- how the files may be found

module _ {D : Type 0} {g : Ghosts D} where
  -- after a store that wasn't opened: as a crash leaves what came back, or as they were if nothing did
  abbrev pub MayBeFoundUnopened : Image → Refused D g → Image → Type 0
  MayBeFoundUnopened held (refused.Store last) found = IsClean (view last) × (state last).may_leave found
  MayBeFoundUnopened held (refused.Files left) found = IsCleanLeft left × IsNumberedLeft left × MayBeLeft left found
  MayBeFoundUnopened held refused.Nothing found = found ≡ held

  -- After a line over files that held this: as they read, or as a stop of the machine leaves them. The disk returned what was written.
  abbrev pub MayBeFound : {O : Type 0} → Image → Left O (Refused D g) (Files D) (Unclosed D g) → Image → Type 0
  MayBeFound held (stores.Given given) found = found ≡ held
  MayBeFound held (stores.Refused it) found = MayBeFoundUnopened held it found
  MayBeFound held (stores.AtRest files) found = AreClean g files.log files.db × AreFoundAs g files found
  MayBeFound held (stores.Unclosed it) found = IsClean (view it.store) × IsNumberedStore it.store × (state it.store).may_leave found

  -- After a line whose files stopped, and which so closed no store: as a stop of the machine leaves what came back.
  abbrev pub MayBeStopped : {O R : Type 0} → Image → Left O (Refused D g) R (FileStore D g) → Image → Type 0
  MayBeStopped held (stores.Given given) found = found ≡ held
  MayBeStopped held (stores.Refused it) found = MayBeFoundUnopened held it found
  MayBeStopped held (stores.AtRest rest) found = ⊥
  MayBeStopped held (stores.Unclosed last) found = IsClean (view last) × (state last).may_leave found

-- ---- what a line did

-- these files hold the content, and the attempts are events after those that had led to what the files held
abbrev pub Led : Image → Image → Content → List Attempt → Type 0
Led held found content attempts = HoldsContent found content × LineLeads held attempts found

-- A command's work led to these files, which hold what it left. Or they were not written back, and the files hold what its attempts, and
-- a stop after them, may leave. Or its store was not opened, and nothing was printed.
abbrev pub Did : Image → Image → Option (List ℕ) → Option (List ℕ) → Result Outcome RunFault → ((Content → List Attempt → Type 0) → Result Outcome RunFault → Type 0) → Type 0
Did held found old new result Carried =
    Carried (Led held found) result
    ⊎ (((ended : Result Outcome RunFault) × (result ≡ unwritten ended) × Carried (λ content attempts. LineLeads held attempts found) ended)
    ⊎ (IsErr result × LineWaits held found × (new ≡ old)))

-- What a command did that ended so over two files which held this content; these are found afterwards. `files` are the bytes of the file
-- at each path, and `coming` those that each connection sends which comes to a port, if they are known. The other arguments are the input
-- before and after, and the output before and after.
abbrev pub DoesInFiles : Image → Image → Content → (Text → Option (List ℕ)) → (ℕ → Option (List (List ℕ))) → Option (List ℕ) → Option (List ℕ) → Option (List ℕ) → Option (List ℕ) → Asked → Result Outcome RunFault → Type 0
DoesInFiles held found c files coming input left old new (value denom issued month rate extension) result = found ≡ held
DoesInFiles held found c files coming input left old new (apply db) result = Did held found old new result (λ Has ended. Applies input left old new c ended Has)
DoesInFiles held found c files coming input left old new (imports kind file db desk number) result =
    Did held found old new result (λ Has ended. Tries old new ended (ImportsInto kind (files file) old new (desk, number) c ended Has) (Has c []))
DoesInFiles held found c files coming input left old new (export customer db) result = Did held found old new result (λ Has ended. ExportsFrom old new customer c ended Has)
DoesInFiles held found c files coming input left old new (sheet customer month db) result = Did held found old new result (λ Has ended. ShowsSheet old new customer month c ended (Has c []))
DoesInFiles held found c files coming input left old new (serve db port connections) result =
    Did held found old new result (λ Has ended. Tries old new ended (ServesAll (coming port) connections old new c ended Has) (Has c []))
