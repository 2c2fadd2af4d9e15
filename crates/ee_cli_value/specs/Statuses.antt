-- What an exit status means.
use Rattle.std.specs.Prelude.{◌≡◌, ◌⊎◌, ℕ, Result, Ok, Err}
use Rattle.ee_cli_value.specs.declared.endings.Outcome.{Outcome}
use Rattle.ee_cli_value.specs.declared.endings.Outcome.TheVariants as outcome

-- status 3 also means an unsettled value that couldn't be reported
abbrev pub IsStatusFor : Outcome → ℕ → Type 0
IsStatusFor outcome.Done status = status ≡ 0
IsStatusFor (outcome.Unsettled age) status = (status ≡ 1) ⊎ (status ≡ 3)

-- the same for a command that may have failed, with status 3
abbrev pub IsStatusOf : {F : Type 0} → Result Outcome F → ℕ → Type 0
IsStatusOf (Ok outcome) status = IsStatusFor outcome status
IsStatusOf (Err fault) status = status ≡ 3
