-- Answers that are replies, attempts, and requests that fit a store.
use Rattle.std.specs.Prelude.{List, [], ◌∷◌, ◌++◌, Result, Ok, Err, ⊤}
use Rattle.ee_desk_model.specs.declared.acts.Request.{Request}
use Rattle.ee_desk_model.specs.declared.replies.Reply.{Reply}
use Rattle.ee_desk_model.specs.declared.refusals.Unserved.{Unserved}
use Rattle.ee_desk_model.specs.Repeats.{Content}
use Rattle.ee_desk_model.specs.Contents.{content_after}
use Rattle.ee_desk_laws.specs.Attempts.{Attempt}
use Rattle.ee_keeper.specs.Keeping.{attempt_at}

abbrev pub IsServed : Result Reply Unserved → Type 0
IsServed (Ok reply) = ⊤
IsServed (Err unserved) = ⊥

-- the texts of each request fit the store, in the content after the served requests before it
abbrev pub FitInTurn : (Content → Request → Type 0) → Content → List Request → List Request → List (Result Reply Unserved) → Type 0
FitInTurn fits start before [] [] = ⊤
FitInTurn fits start before (q ∷ qs) (Ok reply ∷ answers) = fits (content_after start before) q × FitInTurn fits start (before ++ q ∷ []) qs answers
FitInTurn fits start before (q ∷ qs) (Err error ∷ answers) = fits (content_after start before) q × FitInTurn fits start before qs answers
FitInTurn fits start before _ _ = ⊥

-- the requests, and which of them were served
abbrev pub attempts_at : List Request → List (Result Reply Unserved) → List Attempt
attempts_at [] answers = []
attempts_at (q ∷ qs) [] = []
attempts_at (q ∷ qs) (answer ∷ answers) = attempt_at q answer ++ attempts_at qs answers
