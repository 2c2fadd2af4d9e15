-- Answers that the content settles.
use Rattle.std.proofs.Common.{◌≡◌, List, [], ◌∷◌, ◌++◌, Result, Ok, Err, refl, sym, ap, ◌∙◌}
use Rattle.std.specs.List.{AllByRecursion}
use Rattle.ee_desk_model.specs.declared.acts.Request.{Request}
use Rattle.ee_desk_model.specs.declared.replies.Reply.{Reply}
use Rattle.ee_desk_model.specs.declared.refusals.Unserved.{Unserved}
use Rattle.ee_desk_model.specs.Repeats.{Content}
use Rattle.ee_desk_model.specs.Contents.{content_after}
use Rattle.ee_desk_model.specs.Answers.{served, AreAnswers}
use Rattle.ee_desk_model.proofs.Lemmas.Requests.{content_after-append}
use Rattle.ee_wire_calls.specs.declared.calls.Call.{Call}
use Rattle.ee_wire_calls.specs.declared.calls.Call.TheVariants as call
use Rattle.ee_wire_calls.specs.declared.faults.WireFault.{WireFault}
use Rattle.ee_wire.specs.declared.answers.Answer.{Answer}
use Rattle.ee_wire.specs.declared.answers.Answer.TheVariants as told
use Rattle.ee_counter.specs.Answering.{call_of, left_after}
use Rattle.ee_counter.specs.Served.{IsServed}
use Rattle.ee_counter.specs.Serving.{Told, left_by, left_by_all, request_in, requests_in}

pub same_answers : (c : Content) (before qs : List Request) (one other : List (Result Reply Unserved))
    → AreAnswers c before qs one → AreAnswers c before qs other → AllByRecursion IsServed one → AllByRecursion IsServed other → one ≡ other
same_answers c before [] [] [] h k x y = refl
same_answers c before [] [] (b ∷ other) h k x y = absurd k
same_answers c before [] (a ∷ one) other h k x y = absurd h
same_answers c before (q ∷ qs) [] other h k x y = absurd h
same_answers c before (q ∷ qs) (a ∷ one) [] h k x y = absurd k
same_answers c before (q ∷ qs) (Err e ∷ one) (b ∷ other) h k x y = absurd x.0
same_answers c before (q ∷ qs) (Ok r ∷ one) (Err e ∷ other) h k x y = absurd y.0
same_answers c before (q ∷ qs) (Ok r ∷ one) (Ok s ∷ other) h k x y =
    λ i. Ok ((h.0 ∙ sym k.0) i) ∷ same_answers c (before ++ q ∷ []) qs one other h.1 k.1 x.1 y.1 i

pub all_served : (c : Content) (before qs : List Request) (answers : List (Result Reply Unserved))
    → AreAnswers c before qs answers → AllByRecursion IsServed answers → served qs answers ≡ qs
all_served c before [] [] h x = refl
all_served c before [] (a ∷ answers) h x = absurd h
all_served c before (q ∷ qs) [] h x = absurd h
all_served c before (q ∷ qs) (Err e ∷ answers) h x = absurd x.0
all_served c before (q ∷ qs) (Ok r ∷ answers) h x = ap (λ l. q ∷ l) (all_served c (before ++ q ∷ []) qs answers h.1 x.1)

-- ---- a connection and its requests

one_left : (c : Content) (asked : Result Call WireFault) (a : Answer) → left_after c asked a ≡ content_after c (request_in asked a)
one_left c (Ok (call.Request request)) (told.Reply reply) = refl
one_left c (Ok (call.Request request)) (told.Sheet sheet) = refl
one_left c (Ok (call.Request request)) (told.Row row) = refl
one_left c (Ok (call.Request request)) (told.Ticket ticket) = refl
one_left c (Ok (call.Request request)) (told.Batch batch) = refl
one_left c (Ok (call.Request request)) (told.Fault fault) = refl
one_left c (Ok (call.Request request)) (told.Unserved cause) = refl
one_left c (Ok (call.Query query)) (told.Reply reply) = refl
one_left c (Ok (call.Query query)) (told.Sheet sheet) = refl
one_left c (Ok (call.Query query)) (told.Row row) = refl
one_left c (Ok (call.Query query)) (told.Ticket ticket) = refl
one_left c (Ok (call.Query query)) (told.Batch batch) = refl
one_left c (Ok (call.Query query)) (told.Fault fault) = refl
one_left c (Ok (call.Query query)) (told.Unserved cause) = refl
one_left c (Err fault) (told.Reply reply) = refl
one_left c (Err fault) (told.Sheet sheet) = refl
one_left c (Err fault) (told.Row row) = refl
one_left c (Err fault) (told.Ticket ticket) = refl
one_left c (Err fault) (told.Batch batch) = refl
one_left c (Err fault) (told.Fault other) = refl
one_left c (Err fault) (told.Unserved cause) = refl

pub all_left : (c : Content) (ts : List Told) → left_by_all c ts ≡ content_after c (requests_in ts)
all_left c [] = refl
all_left c (t ∷ ts) =
    all_left (left_by c t) ts
    ∙ ap (λ d. content_after d (requests_in ts)) (one_left c (call_of t.message) t.answer)
    ∙ content_after-append c (request_in (call_of t.message) t.answer) (requests_in ts)
