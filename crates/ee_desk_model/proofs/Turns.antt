-- A run, one request more.
use Rattle.std.proofs.Common.{◌≡◌, ℕ, ◌+◌, ◌<◌, List, [], ◌∷◌, ◌++◌, length, take, get_or, append-nil, append_assoc, Result, Ok, Err, refl, sym, ap, ◌∙◌, subst}
use Rattle.std.specs.Result.{IfOk, OnOk, OnErr}
use Rattle.std.proofs.lemmas.List.{take_more}
use Rattle.ee_desk_model.specs.declared.acts.Request.{Request}
use Rattle.ee_desk_model.specs.declared.replies.Reply.{Reply}
use Rattle.ee_desk_model.specs.declared.refusals.Unserved.{Unserved}
use Rattle.ee_desk_model.specs.Repeats.{Content}
use Rattle.ee_desk_model.specs.Contents.{content_after}
use Rattle.ee_desk_model.specs.Answers.{answer, served, AreAnswers}
use Rattle.ee_desk_model.proofs.Repeats.{content_append, answer_after}

-- one answer more
pub answers_ok : (S : Content) (before qs : List Request) (told : List (Result Reply Unserved)) (q : Request) (r : Reply)
    → AreAnswers S before qs told → r ≡ answer S (before ++ served qs told) q
    → AreAnswers S before (qs ++ q ∷ []) (told ++ Ok r ∷ []) × (served (qs ++ q ∷ []) (told ++ Ok r ∷ []) ≡ served qs told ++ q ∷ [])
answers_ok S before [] [] q r h is = ((is ∙ ap (λ b. answer S b q) (append-nil before), tt), refl)
answers_ok S before [] (a ∷ told) q r h is = absurd h
answers_ok S before (x ∷ qs) [] q r h is = absurd h
answers_ok S before (x ∷ qs) (Ok y ∷ told) q r h is =
    let rest = answers_ok S (before ++ x ∷ []) qs told q r h.1 (is ∙ ap (λ b. answer S b q) (sym (append_assoc before (x ∷ []) (served qs told)))) in
    ((h.0, rest.0), ap (λ l. x ∷ l) rest.1)
answers_ok S before (x ∷ qs) (Err e ∷ told) q r h is = answers_ok S before qs told q r h is

pub answers_err : (S : Content) (before qs : List Request) (told : List (Result Reply Unserved)) (q : Request) (e : Unserved)
    → AreAnswers S before qs told
    → AreAnswers S before (qs ++ q ∷ []) (told ++ Err e ∷ []) × (served (qs ++ q ∷ []) (told ++ Err e ∷ []) ≡ served qs told)
answers_err S before [] [] q e h = (tt, refl)
answers_err S before [] (a ∷ told) q e h = absurd h
answers_err S before (x ∷ qs) [] q e h = absurd h
answers_err S before (x ∷ qs) (Ok y ∷ told) q e h = let rest = answers_err S (before ++ x ∷ []) qs told q e h.1 in ((h.0, rest.0), ap (λ l. x ∷ l) rest.1)
answers_err S before (x ∷ qs) (Err f ∷ told) q e h = answers_err S before qs told q e h

-- one turn of a run
turn : (S T U : Content) (qs : List Request) (told : List (Result Reply Unserved)) (q : Request) (r : Result Reply Unserved)
    → AreAnswers S [] qs told → T ≡ content_after S (served qs told)
    → IfOk r (λ reply. reply ≡ answer T [] q) → OnOk r (U ≡ content_after T (q ∷ [])) → OnErr r (U ≡ T)
    → AreAnswers S [] (qs ++ q ∷ []) (told ++ r ∷ []) × (U ≡ content_after S (served (qs ++ q ∷ []) (told ++ r ∷ [])))
turn S T U qs told q (Ok reply) h is told_is after same =
    let t = answers_ok S [] qs told q reply h (told_is ∙ ap (λ C. answer C [] q) is ∙ answer_after S (served qs told) q) in
    (t.0, after ∙ ap (λ C. content_after C (q ∷ [])) is ∙ content_append S (served qs told) (q ∷ []) ∙ ap (content_after S) (sym t.1))
turn S T U qs told q (Err e) h is told_is after same =
    let t = answers_err S [] qs told q e h in
    (t.0, same ∙ is ∙ ap (content_after S) (sym t.1))

pub run_turn : (S : Content) (all : List Request) (i : ℕ) (q : Request) (told more : List (Result Reply Unserved)) (r : Result Reply Unserved) (T U : Content)
    → i < length all → q ≡ get_or all i q → more ≡ told ++ r ∷ []
    → AreAnswers S [] (take i all) told → T ≡ content_after S (served (take i all) told)
    → IfOk r (λ reply. reply ≡ answer T [] q) → OnOk r (U ≡ content_after T (q ∷ [])) → OnErr r (U ≡ T)
    → AreAnswers S [] (take (i + 1) all) more × (U ≡ content_after S (served (take (i + 1) all) more))
run_turn S all i q told more r T U h at push answers is told_is after same =
    subst (λ (p : List Request × List (Result Reply Unserved)). AreAnswers S [] p.0 p.1 × (U ≡ content_after S (served p.0 p.1)))
    (λ i'. (sym (take_more all i q h ∙ ap (λ x. take i all ++ x ∷ []) (sym at)) i', sym push i'))
    (turn S T U (take i all) told q r answers is told_is after same)
