-- What commands do over the stores that their lines name.
use Rattle.std.specs.Prelude.{◌≡◌, ◌⊎◌, ◌*◌, ℕ, Bool, List, [], Option, Result, Ok, Err, ⊤}
use Rattle.std.specs.Result.{IsErr}
use Rattle.clap.specs.Words.{Text}
use Rattle.ee_desk_model.specs.Repeats.{Content}
use Rattle.ee_desk_model.specs.declared.acts.Request.{Request}
use Rattle.ee_desk_laws.specs.Attempts.{Attempt}
use Rattle.ee_keeper.specs.Keeping.{Continues, FailedIn}
use Rattle.ee_counter.specs.Answering.{FitMessages}
use Rattle.ee_counter.specs.Serving.{most_messages}
use Rattle.ee_cli_actions.specs.Actions.{Applies, ExportsFrom, FitFile, ImportsInto, ShowsSheet}
use Rattle.ee_cli_actions.specs.Endings.{TellsFailureOnlyIf}
use Rattle.ee_cli_actions.specs.Connections.{ServesAll}
use Rattle.ee_cli_actions.specs.declared.faults.Outcome.{Outcome}
use Rattle.ee_cli_actions.specs.declared.faults.RunFault.{RunFault}
use Rattle.ee_cli_actions.specs.declared.faults.RunFault.TheVariants.{Store, Device}
use Rattle.ee_cli_actions.specs.declared.faults.StoreFault.TheVariants.{NotWrittenBack}
use Rattle.ee_cli_program.specs.declared.stores.Left.{Left}
use Rattle.ee_cli_program.specs.declared.stores.Left.TheVariants.{Given, Refused, AtRest, Unclosed}
use Rattle.ee_cli_commands.specs.CommandLine.{Asked, value, apply, imports, export, sheet, serve}

-- the command was carried out over the given store; or a file or a port was not opened, nothing was printed, and the store has
-- what it had
abbrev pub Tries : Option (List ℕ) → Option (List ℕ) → Result Outcome RunFault → Type 0 → Type 0 → Type 0
Tries old new result Carried Stays = Carried ⊎ (IsErr result × (new ≡ old) × Stays)

-- no store was opened, and nothing was printed, as if memory is refused to the words of a line
abbrev pub IsUntouched : {O Q R L : Type 0} → O → Left O Q R L → Option (List ℕ) → Option (List ℕ) → Type 0
IsUntouched given rest old new = (rest ≡ Given given) × (new ≡ old)

-- nothing can listen on the port of a command, so its store was not opened
abbrev pub IsUnbound : {O Q R L : Type 0} → O → Left O Q R L → Option (List ℕ) → Option (List ℕ) → Result Outcome RunFault → Type 0
IsUnbound given rest old new result = (result ≡ Err Device) × IsUntouched given rest old new

-- how a command ends whose work ended so, if its store isn't written back
abbrev pub unwritten : Result Outcome RunFault → Result Outcome RunFault
unwritten (Ok outcome) = Err (Store NotWrittenBack)
unwritten (Err fault) = Err fault

-- The store was closed, is at rest, and the command ends as its work did. Or closing it failed, what is left of it has what was
-- committed, and the command says so if its work was done.
abbrev pub Closes : {O Q S R L : Type 0} → (S → R → Type 0) → (S → L → Type 0) → S → Result Outcome RunFault → Result Outcome RunFault → Left O Q R L → Type 0
Closes rests keeps store ended result (AtRest rest) = rests store rest × (result ≡ ended)
Closes rests keeps store ended result (Unclosed left) = keeps store left × (result ≡ unwritten ended)
Closes rests keeps store ended result (Given given) = ⊥
Closes rests keeps store ended result (Refused rest) = ⊥

-- A command's store, from its opening to its closing. `requests` were to be taken, whose texts fit; `has_room` says for how many the
-- store has room.
pub record Since {S : Type 0} (is_clean is_guarded : S → Type 0) (is_open : S → Bool) (faults : S → ℕ) (has_room : ℕ → S → Type 0) (requests : ℕ) (Fit : Type 0)
    (first left : S) (ended : Result Outcome RunFault) : Type 0 where
  -- if it was opened clean, each of its reads was tested against what was read or written there before
  pub tested : is_clean first → is_guarded first
  pub continues : Continues is_clean is_guarded is_open faults first left
  -- the work failed for the store only if a device of the store failed, if it had room for the requests as it was opened
  pub cause : is_clean left → has_room requests first → Fit → TellsFailureOnlyIf (FailedIn is_open faults first left) ended

-- the work ended so over a store that was opened, and then closed, of which this is left
pub record Works {O Q S R L : Type 0} (rests : S → R → Type 0) (keeps : S → L → Type 0) (result : Result Outcome RunFault) (rest : Left O Q R L)
    (FromTo : S → S → Result Outcome RunFault → Type 0) (Carried : S → Result Outcome RunFault → Type 0) : Type 0 where
  pub first : S
  pub left : S
  pub ended : Result Outcome RunFault
  pub since : FromTo first left ended
  pub carried : Carried left ended
  pub closes : Closes rests keeps left ended result rest

-- the store was not opened, for a fault of its own, and this is left of it
abbrev pub IsUnopened : {O Q R L : Type 0} → (RunFault → Q → Type 0) → Result Outcome RunFault → Left O Q R L → Type 0
IsUnopened refuses result (Refused rest) = (fault : RunFault) × (result ≡ Err fault) × refuses fault rest
IsUnopened refuses result (Given given) = ⊥
IsUnopened refuses result (AtRest rest) = ⊥
IsUnopened refuses result (Unclosed left) = ⊥

-- the work was done over the store; or the store was not opened, and nothing was printed
abbrev pub Over : {O Q S R L : Type 0} → (S → R → Type 0) → (S → L → Type 0) → (RunFault → Q → Type 0) → Option (List ℕ) → Option (List ℕ) → Result Outcome RunFault → Left O Q R L
    → (S → S → Result Outcome RunFault → Type 0) → (S → Result Outcome RunFault → Type 0) → Type 0
Over rests keeps refuses old new result rest FromTo Carried = Works rests keeps result rest FromTo Carried ⊎ (IsUnopened refuses result rest × (new ≡ old))

-- A command over the store that its line names; `contents` says what each store holds, `given` are the stores, and `rest` is what is
-- left of them. What it did is said if the store is clean as it is closed: `Has` then relates the path, the store, its content and the
-- attempts that led there. `FromTo` relates the store as it was opened and as it is closed, by the room for requests and whether their
-- texts fit. `files` are the bytes of the file at each path, and `coming` those that each connection sends which comes to a port, if they
-- are known. The other arguments are the input before and after, the output before and after, and how the command ended.
abbrev pub CarriesOver : {O Q S R L : Type 0} → (S → Type 0) → (ℕ → Type 0 → S → S → Result Outcome RunFault → Type 0) → (Content → Request → Type 0) → (Text → S → Content → List Attempt → Type 0) → (S → R → Type 0) → (S → L → Type 0) → (Text → RunFault → Q → Type 0) → (Text → Content) → (Text → Option (List ℕ)) → (ℕ → Option (List (List ℕ))) → O → Left O Q R L → Option (List ℕ) → Option (List ℕ) → Option (List ℕ) → Option (List ℕ) → Asked → Result Outcome RunFault → Type 0
CarriesOver is_clean FromTo fits Has rests keeps refuses contents files coming given rest input left old new (value denom issued month rate extension) result = rest ≡ Given given
CarriesOver is_clean FromTo fits Has rests keeps refuses contents files coming given rest input left old new (apply db) result =
    Over rests keeps (refuses db) old new result rest (FromTo most_messages (FitMessages fits)) (λ store ended. is_clean store → Applies input left old new (contents db) ended (Has db store))
CarriesOver is_clean FromTo fits Has rests keeps refuses contents files coming given rest input left old new (imports kind file db desk number) result =
    Over rests keeps (refuses db) old new result rest (FromTo 1 (FitFile kind fits (contents db) (desk, number)))
    (λ store ended. is_clean store
    → Tries old new ended (ImportsInto kind (files file) old new (desk, number) (contents db) ended (Has db store)) (Has db store (contents db) []))
CarriesOver is_clean FromTo fits Has rests keeps refuses contents files coming given rest input left old new (export customer db) result =
    Over rests keeps (refuses db) old new result rest (FromTo 0 ⊤) (λ store ended. is_clean store → ExportsFrom old new customer (contents db) ended (Has db store))
CarriesOver is_clean FromTo fits Has rests keeps refuses contents files coming given rest input left old new (sheet customer month db) result =
    Over rests keeps (refuses db) old new result rest (FromTo 0 ⊤)
    (λ store ended. is_clean store → ShowsSheet old new customer month (contents db) ended (Has db store (contents db) []))
CarriesOver is_clean FromTo fits Has rests keeps refuses contents files coming given rest input left old new (serve db port connections) result =
    IsUnbound given rest old new result
    ⊎ Over rests keeps (refuses db) old new result rest (FromTo (connections * most_messages) (FitMessages fits))
    (λ store ended. is_clean store
    → Tries old new ended (ServesAll (coming port) connections old new (contents db) ended (Has db store)) (Has db store (contents db) []))
