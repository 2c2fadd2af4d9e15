-- Contents after requests, kept replies and answers.
use Rattle.std.proofs.Common.{List, None, Result, Some, [], cond, false, get_or, length, take, true, ℕ, ◌++◌, ◌+◌, ◌<◌, ◌∷◌, ◌≡◌}
use Rattle.std.specs.BTreeMap.{is_at}
use Rattle.std.specs.FinMap.{FinMap}
use Rattle.std.specs.Map.{lookup}
use Rattle.std.specs.Result.{IfOk, OnErr, OnOk}
use Rattle.ee_desk_model.specs.Acts.{same_act}
use Rattle.ee_desk_model.specs.Answers.{AreAnswers, answer, reply_again, served}
use Rattle.ee_desk_model.specs.Contents.{content_after}
use Rattle.ee_desk_model.specs.Numbers.{RequestKey, number_cmp, number_of, same_number}
use Rattle.ee_desk_model.specs.Outcomes.{act}
use Rattle.ee_desk_model.specs.Repeats.{Content}
use Rattle.ee_desk_model.specs.declared.acts.Act.{Act}
use Rattle.ee_desk_model.specs.declared.acts.Request.{Request}
use Rattle.ee_desk_model.specs.declared.changes.Kept.{Kept}
use Rattle.ee_desk_model.specs.declared.refusals.Unserved.{Unserved}
use Rattle.ee_desk_model.specs.declared.replies.Reply.{Reply}
use Rattle.std.specs.FinMap as finite
use Rattle.ee_desk_model.proofs.KeptReplies
use Rattle.ee_desk_model.proofs.Repeats
use Rattle.ee_desk_model.proofs.SameActs
use Rattle.ee_desk_model.proofs.Turns

-- ---- contents after requests
-- a request whose number is kept changes nothing
pub content_after-known : (S : Content) (q : Request) → finite.contains_key S.kept (number_of q) ≡ true → content_after S (q ∷ []) ≡ S
content_after-known = Repeats.one_known

-- a request whose number isn't kept leaves its act and its reply
pub content_after-new : (S : Content) (q : Request) → finite.contains_key S.kept (number_of q) ≡ false
    → content_after S (q ∷ []) ≡ record { books = (act S.books q.act).books; kept = finite.insert S.kept (number_of q) (record { act = q.act; reply = (act S.books q.act).reply }) }
content_after-new = Repeats.one_new

-- after a first request, the others go on from what it left
pub content_after-first : (S : Content) (q : Request) (L : List Request) → content_after S (q ∷ L) ≡ content_after (content_after S (q ∷ [])) L
content_after-first = Repeats.content_step

-- after requests, others go on from what they left
pub content_after-append : (S : Content) (L M : List Request) → content_after (content_after S L) M ≡ content_after S (L ++ M)
content_after-append = Repeats.content_append

-- the books of an act, with act and reply kept, are the content after its request
pub content_after-decided : (S now : Content) (q : Request) → finite.get S.kept (number_of q) ≡ None → now.books ≡ (act S.books q.act).books
    → now.kept ≡ finite.insert S.kept (number_of q) (record { act = q.act; reply = (act S.books q.act).reply }) → now ≡ content_after S (q ∷ [])
content_after-decided = KeptReplies.decided

-- a request whose number is kept leaves the content
pub content_after-kept : (S : Content) (q : Request) (kept : Kept) → finite.get S.kept (number_of q) ≡ Some kept → S ≡ content_after S (q ∷ [])
content_after-kept = KeptReplies.stays

-- ---- kept replies
-- the reply that a map in memory keeps is what is looked up among its entries
pub get_kept : (es : List (RequestKey × Kept)) (n : RequestKey) → finite.get (finite.from_entries {R = number_cmp} es) n ≡ lookup (is_at (number_cmp n)) es
get_kept = KeptReplies.get_kept

-- one reply more is found at its number, and the others if they were
pub get_kept-insert : (kept : FinMap number_cmp Kept) (n : RequestKey) (k : Kept) (m : RequestKey)
    → finite.get (finite.insert kept n k) m ≡ cond (same_number m n) (Some k) (finite.get kept m)
get_kept-insert = Repeats.get_more

-- what a number that wasn't kept has after its request
pub get_kept-own : (S : Content) (r : Request) (n : RequestKey) → finite.contains_key S.kept (number_of r) ≡ false → same_number n (number_of r) ≡ true
    → finite.get (content_after S (r ∷ [])).kept n ≡ Some (record { act = r.act; reply = (act S.books r.act).reply })
get_kept-own = Repeats.kept_own

-- a reply at a number that wasn't kept, put in and taken out again, leaves the others
pub remove-insert_kept : (kept : FinMap number_cmp Kept) (n : RequestKey) (k : Kept) → finite.get kept n ≡ None
    → finite.remove (finite.insert kept n k) n ≡ kept
remove-insert_kept = KeptReplies.forgotten

-- ---- answers
-- the answer to a number that is kept is the kept reply, or for another act that the number is reused
pub answer_again : (S : Content) (q : Request) (kept : Kept) → finite.get S.kept (number_of q) ≡ Some kept
    → reply_again kept.act kept.reply q.act ≡ answer S [] q
answer_again = KeptReplies.told_again

-- the answer to a number that isn't kept is the reply of its act
pub answer_new : (S : Content) (q : Request) → finite.get S.kept (number_of q) ≡ None → (act S.books q.act).reply ≡ answer S [] q
answer_new = KeptReplies.told_new

-- the answer after requests is that at the content that they leave
pub answer_after : (S : Content) (L : List Request) (q : Request) → answer (content_after S L) [] q ≡ answer S L q
answer_after = Repeats.answer_after

-- a run of requests, one request further on
pub run_turn : (S : Content) (all : List Request) (i : ℕ) (q : Request) (told more : List (Result Reply Unserved)) (r : Result Reply Unserved)
    (T U : Content)
    → i < length all → q ≡ get_or all i q → more ≡ told ++ r ∷ []
    → AreAnswers S [] (take i all) told → T ≡ content_after S (served (take i all) told)
    → IfOk r (λ reply. reply ≡ answer T [] q) → OnOk r (U ≡ content_after T (q ∷ [])) → OnErr r (U ≡ T)
    → AreAnswers S [] (take (i + 1) all) more × (U ≡ content_after S (served (take (i + 1) all) more))
run_turn = Turns.run_turn

-- ---- acts that are the same
-- acts that are the same are equal
pub same_act-is : (a b : Act) → same_act a b ≡ true → a ≡ b
same_act-is = SameActs.act_is

-- each act is the same as itself
pub same_act-self : (a : Act) → same_act a a ≡ true
same_act-self = SameActs.act_self
