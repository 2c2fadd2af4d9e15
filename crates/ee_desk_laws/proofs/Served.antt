-- What a run over any keeper says of the laws.
use Rattle.std.proofs.Common.{[], ◌∷◌, ◌++◌, Ok, Err, refl, sym, ap, ◌∙◌, append-nil, append_assoc}
use Rattle.ee_desk_model.specs.Contents.{content_after}
use Rattle.ee_desk_model.specs.Answers.{answer, served}
use Rattle.ee_desk_model.proofs.Lemmas.Requests.{content_after-append}
use Rattle.ee_desk_laws.specs.Events.{one, decided, unserved}
use Rattle.ee_desk_laws.specs.Runs.{TellsServed, RunsAsEvents}

pub told_by_run : TellsServed
told_by_run S before [] [] h = refl
told_by_run S before [] (a ∷ answers) h = absurd h
told_by_run S before (q ∷ qs) [] h = absurd h
told_by_run S before (q ∷ qs) (Ok reply ∷ answers) h = λ i. h.0 i ∷ told_by_run S (before ++ q ∷ []) qs answers h.1 i
told_by_run S before (q ∷ qs) (Err e ∷ answers) h = told_by_run S before qs answers h

pub run_happens : RunsAsEvents
run_happens S before [] [] w up is h = (w, refl, is ∙ ap (content_after S) (sym (append-nil before)))
run_happens S before [] (a ∷ answers) w up is h = absurd h
run_happens S before (q ∷ qs) [] w up is h = absurd h
run_happens S before (q ∷ qs) (Ok reply ∷ answers) w up is h =
    let u = decided w q (record { request = q; reply = answer w.now [] q } ∷ w.told) in
    let r = run_happens S (before ++ q ∷ []) qs answers u refl (ap (λ C. one C q) is ∙ content_after-append S before (q ∷ [])) h.1 in
    (r.0, (u, (up, refl), r.1), r.2 ∙ ap (content_after S) (append_assoc before (q ∷ []) (served qs answers)))
run_happens S before (q ∷ qs) (Err e ∷ answers) w up is h =
    let r = run_happens S before qs answers (unserved w q) up is h in (r.0, (unserved w q, (up, refl), r.1), r.2)
