-- A run over any keeper, one request more.
use Rattle.std.proofs.Common.{◌≡◌, ◌∙◌, ℕ, ◌+◌, ◌<◌, List, [], ◌∷◌, ◌++◌, length, take, get_or, append-nil, append_assoc, Result, Ok, Err, refl, sym, ap, subst, arith}
use Rattle.std.proofs.lemmas.List.{take_more, length-take-le}
use Rattle.std.specs.List.{AllByRecursion}
use Rattle.ee_desk_model.specs.declared.acts.Request.{Request}
use Rattle.ee_desk_model.specs.declared.replies.Reply.{Reply}
use Rattle.ee_desk_model.specs.declared.refusals.Unserved.{Unserved}
use Rattle.ee_desk_model.specs.Repeats.{Content}
use Rattle.ee_desk_model.specs.Contents.{content_after}
use Rattle.ee_desk_model.specs.Answers.{served, AreAnswers}
use Rattle.ee_desk_model.proofs.Lemmas.Requests.{run_turn}
use Rattle.ee_desk_laws.specs.Attempts.{LeadOn}
use Rattle.ee_desk_laws.specs.Events.{Event}
use Rattle.ee_desk_laws.proofs.Lemmas.{lead_further}
use Rattle.ee_keeper.specs.Keeping.{Delivers, attempt_at}
use Rattle.ee_counter.specs.Served.{attempts_at}

pub one_more : (S : Content) (all : List Request) (i : ℕ) (q : Request) (told more : List (Result Reply Unserved)) (r : Result Reply Unserved) (Has : Content → Type 0)
    → i < length all → q ≡ get_or all i q → more ≡ told ++ r ∷ []
    → AreAnswers S [] (take i all) told → Delivers (content_after S (served (take i all) told)) q r Has
    → AreAnswers S [] (take (i + 1) all) more × Has (content_after S (served (take (i + 1) all) more))
one_more S all i q told more (Ok reply) Has h at push answers d =
    let T = content_after S (served (take i all) told) in
    let t = run_turn S all i q told more (Ok reply) T (content_after T (q ∷ [])) h at push answers refl d.0 refl tt in
    (t.0, subst Has t.1 d.1)
one_more S all i q told more (Err e) Has h at push answers d =
    let T = content_after S (served (take i all) told) in
    let t = run_turn S all i q told more (Err e) T T h at push answers refl tt tt refl in
    (t.0, subst Has t.1 d)

-- what holds of all and of one more holds of all with it
pub all_more : {A : Type 0} (P : A → Type 0) (xs : List A) (x : A) → AllByRecursion P xs → P x → AllByRecursion P (xs ++ x ∷ [])
all_more P [] x all one = (one, tt)
all_more P (y ∷ xs) x all one = (all.0, all_more P xs x all.1 one)

-- ---- attempts

attempts_last : (qs : List Request) (told : List (Result Reply Unserved)) (q : Request) (r : Result Reply Unserved) → length qs ≡ length told
    → attempts_at (qs ++ q ∷ []) (told ++ r ∷ []) ≡ attempts_at qs told ++ attempt_at q r
attempts_last [] [] q r same = append-nil (attempt_at q r)
attempts_last [] (y ∷ told) q r same = absurd (omega (arith, same))
attempts_last (x ∷ qs) [] q r same = absurd (omega (arith, same))
attempts_last (x ∷ qs) (y ∷ told) q r same =
    ap (λ l. attempt_at x y ++ l) (attempts_last qs told q r (omega (arith, same))) ∙ sym (append_assoc (attempt_at x y) (attempts_at qs told) (attempt_at q r))

pub lead_more : (Before Now Then : Content → List Event → Type 0) (all : List Request) (i : ℕ) (q : Request) (told more : List (Result Reply Unserved)) (r : Result Reply Unserved)
    → i < length all → length told ≡ i → q ≡ get_or all i q → more ≡ told ++ r ∷ []
    → LeadOn Before (attempts_at (take i all) told) Now → LeadOn Now (attempt_at q r) Then → LeadOn Before (attempts_at (take (i + 1) all) more) Then
lead_more Before Now Then all i q told more r h count at push first one =
    let these = take_more all i q h ∙ ap (λ x. take i all ++ x ∷ []) (sym at) in
    let as_many : length (take i all) ≡ length told = length-take-le i all (omega (arith, h)) ∙ sym count in
    subst (λ l. LeadOn Before l Then)
    (sym (attempts_last (take i all) told q r as_many) ∙ sym (λ k. attempts_at (these k) (push k)))
    (lead_further Before Now Then (attempts_at (take i all) told) (attempt_at q r) first one)
