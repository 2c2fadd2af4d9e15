-- Why a run's answers say that the store failed.
use Rattle.std.proofs.Common.{◌≡◌, ℕ, ◌+◌, ◌<◌, ◌≤◌, Bool, List, [], ◌∷◌, ◌++◌, take, get_or, length, append-nil, append_assoc, Result, Ok, Err, sym, ap, ◌∙◌, subst}
use Rattle.std.specs.List.{AllByRecursion}
use Rattle.std.proofs.lemmas.List.{take_more}
use Rattle.ee_desk_model.specs.declared.acts.Request.{Request}
use Rattle.ee_desk_model.specs.declared.replies.Reply.{Reply}
use Rattle.ee_desk_model.specs.declared.refusals.Unserved.{Unserved}
use Rattle.ee_desk_model.specs.Repeats.{Content}
use Rattle.ee_desk_model.specs.Contents.{content_after}
use Rattle.ee_desk_model.specs.Answers.{served}
use Rattle.ee_keeper.specs.Keeping.{FailsOnlyIf, HasCause, IsShutByCause}
use Rattle.ee_keeper.proofs.Lemmas.{all_fail_more, cause_since, cause_then, fails_more}
use Rattle.ee_counter.specs.Served.{FitInTurn}
use Rattle.ee_counter.proofs.Runs.{all_more}

-- ---- answers with a cause

-- the answers to some requests, and to one more, have a cause
pub all_caused : {A : Type 0} (a b c : ℕ) (was_open is_open : Bool) (told more : List (Result A Unserved)) (r : Result A Unserved) → more ≡ told ++ r ∷ []
    → IsShutByCause a b was_open is_open → b ≤ c → AllByRecursion (FailsOnlyIf (HasCause a b was_open)) told → FailsOnlyIf (HasCause b c is_open) r
    → AllByRecursion (FailsOnlyIf (HasCause a c was_open)) more
all_caused a b c was_open is_open told more r push first later all one =
    subst (AllByRecursion (FailsOnlyIf (HasCause a c was_open))) (sym push)
    (all_more (FailsOnlyIf (HasCause a c was_open)) told r
    (all_fail_more (HasCause a b was_open) (HasCause a c was_open) told (λ cause. cause_then a b c was_open cause later) all)
    (fails_more (HasCause b c is_open) (HasCause a c was_open) r (cause_since a b c was_open is_open first later) one))

-- ---- requests that fit

module _ (fits : Content → Request → Type 0) (start : Content) (q : Request) (r : Result Reply Unserved) where
  none_left : (before : List Request) (told : List (Result Reply Unserved)) → FitInTurn fits start before [] (told ++ r ∷ []) → ⊥
  none_left before [] h = h
  none_left before (x ∷ told) h = h

  none_told : (before qs : List Request) → FitInTurn fits start before (qs ++ q ∷ []) [] → ⊥
  none_told before [] h = h
  none_told before (x ∷ qs) h = h

  -- the requests before the last fit, and so does the last
  fit_last : (before qs : List Request) (told : List (Result Reply Unserved)) → FitInTurn fits start before (qs ++ q ∷ []) (told ++ r ∷ [])
      → FitInTurn fits start before qs told × fits (content_after start (before ++ served qs told)) q
  fit_last before [] [] h = (tt, subst (λ l. fits (content_after start l) q) (sym (append-nil before)) (one r h))
    where
      one : (r : Result Reply Unserved) → FitInTurn fits start before (q ∷ []) (r ∷ []) → fits (content_after start before) q
      one (Ok reply) h = h.0
      one (Err e) h = h.0
  fit_last before [] (Ok y ∷ told) h = absurd (none_left (before ++ q ∷ []) told h.1)
  fit_last before [] (Err e ∷ told) h = absurd (none_left before told h.1)
  fit_last before (x ∷ qs) [] h = absurd (none r h)
    where
      none : (r : Result Reply Unserved) → FitInTurn fits start before (x ∷ qs ++ q ∷ []) (r ∷ []) → ⊥
      none (Ok reply) h = none_told (before ++ x ∷ []) qs h.1
      none (Err e) h = none_told before qs h.1
  fit_last before (x ∷ qs) (Ok y ∷ told) h =
      let rest = fit_last (before ++ x ∷ []) qs told h.1 in
      ((h.0, rest.0), subst (λ l. fits (content_after start l) q) (append_assoc before (x ∷ []) (served qs told)) rest.1)
  fit_last before (x ∷ qs) (Err e ∷ told) h = let rest = fit_last before qs told h.1 in ((h.0, rest.0), rest.1)

pub fit_turn : (fits : Content → Request → Type 0) (start : Content) (all : List Request) (i : ℕ) (q : Request) (told more : List (Result Reply Unserved)) (r : Result Reply Unserved)
    → i < length all → q ≡ get_or all i q → more ≡ told ++ r ∷ []
    → FitInTurn fits start [] (take (i + 1) all) more → FitInTurn fits start [] (take i all) told × fits (content_after start (served (take i all) told)) q
fit_turn fits start all i q told more r h at push fit =
    fit_last fits start q r [] (take i all) told (subst (λ (p : List Request × List (Result Reply Unserved)). FitInTurn fits start [] p.0 p.1)
    (λ i'. ((take_more all i q h ∙ ap (λ x. take i all ++ x ∷ []) (sym at)) i', push i')) fit)
