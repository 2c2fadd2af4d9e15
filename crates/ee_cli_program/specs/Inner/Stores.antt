-- Definitions that private contracts alone cite; specs/Stores.antt has the others.
use Rattle.std.specs.Prelude.{ℕ, Bool, List, Option, Result, ⊤}
use Rattle.ee_desk_model.specs.Repeats.{Content}
use Rattle.ee_desk_laws.specs.Attempts.{Attempt}
use Rattle.ee_desk_laws.specs.Events.{Event}
use Rattle.ee_keeper.specs.Keeping.{Continues, HasAfter}
use Rattle.ee_cli_actions.specs.declared.faults.Outcome.{Outcome}
use Rattle.ee_cli_actions.specs.declared.faults.RunFault.{RunFault}
use Rattle.ee_cli_program.specs.Stores.{Over}
use Rattle.ee_cli_program.specs.declared.stores.Left.{Left}

-- A store that was opened. If it is clean, it has what was there, and has gone through what led there; its reads are tested; and it takes
-- the requests that it has room for.
pub record IsOpened {S : Type 0} (is_clean is_guarded : S → Type 0) (has_room takes : ℕ → S → Type 0) (holds : Content → Type 0) (opens : Content → List Event → Type 0)
    (has : S → Content → Type 0) (went : S → Content → List Event → Type 0) (first : S) : Type 0 where
  pub content : is_clean first → (c : Content) → holds c → has first c
  pub gone : is_clean first → (start : Content) (events : List Event) → opens start events → went first start events
  pub tested : is_clean first → is_guarded first
  pub room : is_clean first → (n : ℕ) → has_room n first → takes n first

-- A command's work on a store that is open. `Carried` says what it did at the content that the store had, and `Cause` why it failed for
-- the store.
pub record WorksOn {S : Type 0} (is_clean is_guarded : S → Type 0) (is_open : S → Bool) (faults : S → ℕ) (has : S → Content → Type 0) (went : S → Content → List Event → Type 0)
    (Cause : S → S → Content → Result Outcome RunFault → Type 0) (Carried : Content → Result Outcome RunFault → (Content → List Attempt → Type 0) → Type 0)
    (first left : S) (ended : Result Outcome RunFault) : Type 0 where
  pub continues : Continues is_clean is_guarded is_open faults first left
  pub carried : is_clean left → (c : Content) → has first c → Carried c ended (HasAfter (has left) (went first) (went left))
  pub cause : is_clean left → (c : Content) → has first c → Cause first left c ended

-- the store was opened, the work was done on it, and it was closed; or it was not opened, and nothing was printed
abbrev pub Worked : {O Q S R L : Type 0} → (S → R → Type 0) → (S → L → Type 0) → (RunFault → Q → Type 0) → Option (List ℕ) → Option (List ℕ) → Result Outcome RunFault → Left O Q R L
    → (S → Type 0) → (S → S → Result Outcome RunFault → Type 0) → Type 0
Worked rests keeps refuses old new result rest Opened WorksOn = Over rests keeps refuses old new result rest (λ first left ended. Opened first × WorksOn first left ended) (λ left ended. ⊤)
