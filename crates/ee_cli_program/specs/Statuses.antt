-- What an exit status says about the words of a line, and about what was carried out.
use Rattle.std.specs.Prelude.{◌≡◌, ◌≢◌, ◌≤◌, ◌⊎◌, ◌++◌, ◌∷◌, [], ℕ, List, codes, Option, Result, Ok, Err, IfOk, ⊤}
use Rattle.clap.specs.Words.{Text}
use Rattle.ee_units.specs.declared.denoms.Denom.{Denom}
use Rattle.ee_value.specs.Chain.{rates_with}
use Rattle.ee_value.specs.declared.rates.Rates.{Rates}
use Rattle.ee_cli_value.specs.Values.{PrintsValue}
use Rattle.ee_cli_actions.specs.declared.faults.Outcome.{Outcome}
use Rattle.ee_cli_actions.specs.declared.faults.Outcome.TheVariants as outcome
use Rattle.ee_cli_value.specs.declared.endings.Outcome as value_outcome
use Rattle.ee_cli_value.specs.declared.endings.PrintFault.{PrintFault}
use Rattle.ee_desk_model.specs.declared.refusals.Refusal.{Refusal}
use Rattle.ee_cli_actions.specs.Endings.{fault_of_print, outcome_of_value}
use Rattle.ee_cli_actions.specs.declared.faults.RunFault.{RunFault}
use Rattle.ee_cli_commands.specs.CommandLine.{Asked, value, apply, imports, export, sheet, serve}
use Rattle.ee_cli_commands.specs.Answer.{IsAsked, IsRefused, AsksForHelp, AsksForVersion}

-- the ending of a command that prints a value
abbrev pub ending_of_print : Result value_outcome.Outcome PrintFault → Result Outcome RunFault
ending_of_print (Ok outcome) = Ok (outcome_of_value outcome)
ending_of_print (Err cause) = Err (fault_of_print cause)

-- a value is printed, or not, and the command ends accordingly
abbrev pub ShowsValue : Denom → ℕ → ℕ → Rates → Option (List ℕ) → Option (List ℕ) → Result Outcome RunFault → Type 0
ShowsValue denom issued month rates old new result =
    (ended : Result value_outcome.Outcome PrintFault) × PrintsValue denom issued month rates old new ended × (result ≡ ending_of_print ended)

-- whatever the store holds: a value is printed, and commands that show or serve are never refused. A value needs no store.
abbrev pub Carries : Option (List ℕ) → Option (List ℕ) → Asked → Result Outcome RunFault → Type 0
Carries old new (value denom issued month rate extension) result = ShowsValue denom issued month (rates_with rate extension) old new result
Carries old new (apply db) result = ⊤
Carries old new (imports kind file db desk number) result = ⊤
Carries old new (export customer db) result = IfOk result (λ ended. ended ≡ outcome.Done)
Carries old new (sheet customer month db) result = IfOk result (λ ended. ended ≡ outcome.Done)
Carries old new (serve db port connections) result = IfOk result (λ ended. ended ≡ outcome.Done)

-- the versions of the program and of the stores that it makes
abbrev pub version_line : List ℕ
version_line = codes "ee_cli 1.1.0, store version 2" ++ 10 ∷ []

-- the words ask for help, or for the version
abbrev pub AsksToShow : List Text → Type 0
AsksToShow words = AsksForHelp words ⊎ AsksForVersion words

-- the status of a command that was carried out; status 3 also means an unsettled value that couldn't be reported
abbrev pub IsStatusFor : Outcome → ℕ → Type 0
IsStatusFor outcome.Done status = status ≡ 0
IsStatusFor (outcome.Refused refusal) status = status ≡ 1
IsStatusFor outcome.NoMessage status = status ≡ 1
IsStatusFor (outcome.Unsettled age) status = (status ≡ 1) ⊎ (status ≡ 3)

-- the same for a command that may have failed, with status 3
abbrev pub IsStatusOf : Result Outcome RunFault → ℕ → Type 0
IsStatusOf (Ok outcome) status = IsStatusFor outcome status
IsStatusOf (Err fault) status = status ≡ 3

-- a command that was refused, whose input had bytes that are no message, or that found the value unsettled
abbrev pub Refuses : (Result Outcome RunFault → Type 0) → Type 0
Refuses Carried = ((refusal : Refusal) × Carried (Ok (outcome.Refused refusal)))
    ⊎ (Carried (Ok outcome.NoMessage) ⊎ ((age : ℕ) × Carried (Ok (outcome.Unsettled age))))

-- How a command ended, by its status: 0 done, 1 refused or unsettled, never 2, 3 failed. Status 3 also means an unsettled value that
-- couldn't be reported, or that memory was refused to the words (`Unread`).
pub record Ends (Carried : Result Outcome RunFault → Type 0) (Unread : Type 0) (status : ℕ) : Type 0 where
  pub done : status ≡ 0 → Carried (Ok outcome.Done)
  pub refused : status ≡ 1 → Refuses Carried
  pub is_good_line : status ≢ 2
  pub failed : status ≡ 3 → ((fault : RunFault) × Carried (Err fault)) ⊎ (((age : ℕ) × Carried (Ok (outcome.Unsettled age))) ⊎ Unread)

-- 0: the words ask for a command, which was done, or for help or the version; 1: for a command that was refused; 2: one of
-- them spells no value, or clap refuses them; 3: a command that failed, or something that couldn't be written or took memory.
-- `Carried` is what is known about a command that ended so: whichever command the words ask for ended as the status says. `Unread`
-- is what is known if memory was refused to the words.
pub record IsRun (words : List Text) (Carried : Asked → Result Outcome RunFault → Type 0) (Unread : Type 0) (status : ℕ) : Type 0 where
  pub range : status ≤ 3
  pub ends : (asked : Asked) → IsAsked words (Ok asked) → Ends (Carried asked) Unread status
  pub shows : AsksToShow words → (status ≡ 0) ⊎ (status ≡ 3)
  pub refuses_line : ((name : Text) × IsAsked words (Err name)) ⊎ IsRefused words → (status ≡ 2) ⊎ (status ≡ 3)
  pub done : status ≡ 0 → ((asked : Asked) × IsAsked words (Ok asked)) ⊎ AsksToShow words
  pub refused : status ≡ 1 → (asked : Asked) × IsAsked words (Ok asked)
  pub bad_line : status ≡ 2 → ((name : Text) × IsAsked words (Err name)) ⊎ IsRefused words

-- the words ask for a command, which ended so, with this status
pub record HasRun (words : List Text) (Ended : Asked → Result Outcome RunFault → Type 0) (status : ℕ) : Type 0 where
  pub asked : Asked
  pub is_asked : IsAsked words (Ok asked)
  pub ended : Result Outcome RunFault
  pub carried : Ended asked ended
  pub has_status : IsStatusOf ended status
