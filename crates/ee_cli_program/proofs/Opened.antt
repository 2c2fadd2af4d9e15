-- What a command did over a store, since the store was opened.
use Rattle.std.proofs.Common.{ℕ, Bool, List, Option, Result, inl, inr}
use Rattle.ee_desk_model.specs.Repeats.{Content}
use Rattle.ee_desk_laws.specs.Attempts.{Attempt}
use Rattle.ee_desk_laws.specs.Events.{Event}
use Rattle.ee_keeper.specs.Keeping.{FailedIn, HasAfter}
use Rattle.ee_cli_actions.specs.Endings.{TellsFailureOnlyIf}
use Rattle.ee_cli_actions.specs.declared.faults.Outcome.{Outcome}
use Rattle.ee_cli_actions.specs.declared.faults.RunFault.{RunFault}
use Rattle.ee_cli_program.specs.Inner.Stores.{IsOpened, Worked, WorksOn}
use Rattle.ee_cli_program.specs.Stores.{Over, Since}
use Rattle.ee_cli_program.specs.declared.stores.Left.{Left}

-- the store had gone through what the path's store had
since_opened : (Has : Content → Type 0) (Opens Went Left : Content → List Event → Type 0)
    → ((start : Content) (events : List Event) → Opens start events → Went start events)
    → (d : Content) (attempts : List Attempt) → HasAfter Has Went Left d attempts → HasAfter Has Opens Left d attempts
since_opened Has Opens Went Left went d attempts (has, lead) = (has, λ start earlier more opens are. lead start earlier more (went start earlier opens) are)

-- what the work did on the store that was opened, it did at what the path holds
pub over_worked : {O Q S R L : Type 0} (is_clean is_guarded : S → Type 0) (is_open : S → Bool) (faults : S → ℕ) (has_room takes : ℕ → S → Type 0)
    (holds : Content → Type 0) (opens : Content → List Event → Type 0) (has : S → Content → Type 0) (went : S → Content → List Event → Type 0)
    (rests : S → R → Type 0) (keeps : S → L → Type 0) (refuses : RunFault → Q → Type 0) (old new : Option (List ℕ)) (result : Result Outcome RunFault) (rest : Left O Q R L)
    (Cause : S → S → Content → Result Outcome RunFault → Type 0) (Carried : Content → Result Outcome RunFault → (Content → List Attempt → Type 0) → Type 0)
    (requests : ℕ) (Fit : Type 0) (c : Content) → holds c
    → ((first left : S) (ended : Result Outcome RunFault) → Cause first left c ended → takes requests first → Fit → TellsFailureOnlyIf (FailedIn is_open faults first left) ended)
    → ((Has After : Content → List Attempt → Type 0) → ((d : Content) (attempts : List Attempt) → Has d attempts → After d attempts)
    → (ended : Result Outcome RunFault) → Carried c ended Has → Carried c ended After)
    → Worked rests keeps refuses old new result rest (IsOpened is_clean is_guarded has_room takes holds opens has went) (WorksOn is_clean is_guarded is_open faults has went Cause Carried)
    → Over rests keeps refuses old new result rest (Since is_clean is_guarded is_open faults has_room requests Fit) (λ left ended. is_clean left → Carried c ended (HasAfter (has left) opens (went left)))
over_worked is_clean is_guarded is_open faults has_room takes holds opens has went rests keeps refuses old new result rest Cause Carried requests Fit c holding enough more (inl w) = inl record {
  first = w.first;
  left = w.left;
  ended = w.ended;
  since = record {
    tested = w.since.0.tested;
    continues = w.since.1.continues;
    cause = λ clean room fit.
        let before = w.since.1.continues.clean clean in
        enough w.first w.left w.ended (w.since.1.cause clean c (w.since.0.content before c holding)) (w.since.0.room before requests room) fit;
  };
  carried = λ clean.
      let before = w.since.1.continues.clean clean in
      more _ _ (since_opened (has w.left) opens (went w.first) (went w.left) (w.since.0.gone before)) w.ended (w.since.1.carried clean c (w.since.0.content before c holding));
  closes = w.closes;
}
over_worked is_clean is_guarded is_open faults has_room takes holds opens has went rests keeps refuses old new result rest Cause Carried requests Fit c holding enough more (inr unopened) = inr unopened
