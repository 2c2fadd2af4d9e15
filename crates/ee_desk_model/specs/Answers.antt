-- The one answer to a request, given the requests before it.
use Rattle.std.specs.Prelude.{◌≡◌, Bool, List, [], ◌∷◌, ◌++◌, find, Option, Some, None, Result, Ok, Err, ⊤, if◌then◌else◌}
use Rattle.std.specs.FinMap as finite
use Rattle.ee_desk_model.specs.Numbers.{RequestKey, same_number, number_of}
use Rattle.ee_desk_model.specs.declared.acts.Act.{Act}
use Rattle.ee_desk_model.specs.declared.acts.Request.{Request}
use Rattle.ee_desk_model.specs.declared.replies.Reply.{Reply}
use Rattle.ee_desk_model.specs.declared.replies.Reply.TheVariants.{Refused}
use Rattle.ee_desk_model.specs.declared.refusals.Refusal.TheVariants.{NumberReused}
use Rattle.ee_desk_model.specs.declared.refusals.Unserved.{Unserved}
use Rattle.ee_desk_model.specs.declared.changes.Kept.{Kept}
use Rattle.ee_desk_model.specs.Acts.{same_act}
use Rattle.ee_desk_model.specs.Outcomes.{act}
use Rattle.ee_desk_model.specs.Repeats.{Content}
use Rattle.ee_desk_model.specs.Contents.{books_after}

-- the kept reply, if the act is the same
abbrev pub reply_again : Act → Reply → Act → Reply
reply_again first reply again = if same_act first again then reply else Refused NumberReused

abbrev pub is_of : RequestKey → Request → Bool
is_of number q = same_number number (number_of q)

-- the requests before the first with this number
abbrev pub before : RequestKey → List Request → List Request
before number [] = []
before number (q ∷ qs) = if same_number number (number_of q) then [] else q ∷ before number qs

-- the answer given the first request with this number, if there is one
abbrev pub answer_by : Content → List Request → Request → Option Request → Reply
answer_by start requests q None = (act (books_after start requests) q.act).reply
answer_by start requests q (Some first) =
    reply_again first.act (act (books_after start (before (number_of q) requests)) first.act).reply q.act

abbrev pub answer_for : Content → List Request → Request → Option Kept → Reply
answer_for start requests q (Some kept) = reply_again kept.act kept.reply q.act
answer_for start requests q None = answer_by start requests q (find (is_of (number_of q)) requests)

-- the answer to a request after others
abbrev pub answer : Content → List Request → Request → Reply
answer start requests q = answer_for start requests q (finite.get start.kept (number_of q))

-- the requests that got a reply
abbrev pub served : List Request → List (Result Reply Unserved) → List Request
served [] answers = []
served (q ∷ qs) [] = []
served (q ∷ qs) (Ok reply ∷ answers) = q ∷ served qs answers
served (q ∷ qs) (Err error ∷ answers) = served qs answers

-- each reply is the answer to its request after the served requests before it
abbrev pub AreAnswers : Content → List Request → List Request → List (Result Reply Unserved) → Type 0
AreAnswers start before [] [] = ⊤
AreAnswers start before (q ∷ qs) (Ok reply ∷ answers) = (reply ≡ answer start before q) × AreAnswers start (before ++ q ∷ []) qs answers
AreAnswers start before (q ∷ qs) (Err error ∷ answers) = AreAnswers start before qs answers
AreAnswers start before _ _ = ⊥
