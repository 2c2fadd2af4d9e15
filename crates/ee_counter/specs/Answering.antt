-- The answer to a message, given a content of books and kept replies.
use Rattle.std.specs.Prelude.{◌≡◌, true, false, ℕ, List, [], ◌∷◌, length, ◌+◌, ◌≤◌, Result, Ok, Err, ⊤}
use Rattle.ee_desk_model.specs.PlainBooks.{PlainBooks}
use Rattle.ee_desk_model.specs.Repeats.{Content}
use Rattle.ee_desk_model.specs.Contents.{content_after}
use Rattle.ee_desk_model.specs.Answers as desk
use Rattle.ee_desk_model.specs.Queries.{ShowsQuery}
use Rattle.ee_desk_model.specs.declared.queries.Shown.TheVariants as shown
use Rattle.ee_desk_model.specs.declared.acts.Request.{Request}
use Rattle.ee_desk_laws.specs.Attempts.{Attempt}
use Rattle.ee_desk_texts.specs.Given.{IsGiven}
use Rattle.ee_desk_texts.specs.Texts.{act_text, reply_text}
use Rattle.ee_desk_model.specs.Outcomes.{act}
use Rattle.ee_wire_framing.specs.Framing.{Message, BeginsMessage}
use Rattle.ee_wire_calls.specs.Calls.{decoded}
use Rattle.ee_wire_calls.specs.declared.calls.Call.{Call}
use Rattle.ee_wire_calls.specs.declared.calls.Call.TheVariants as call
use Rattle.ee_desk_model.specs.declared.queries.Query.{Query}
use Rattle.ee_desk_model.specs.declared.queries.Query.TheVariants as ask
use Rattle.ee_wire_calls.specs.declared.faults.WireFault.{WireFault}
use Rattle.ee_wire_calls.specs.declared.faults.WireFault.TheVariants.{NoRoute}
use Rattle.ee_wire.specs.declared.answers.Answer.{Answer}
use Rattle.ee_wire.specs.declared.answers.Answer.TheVariants as told

-- what a message asks for, or its first fault
abbrev pub call_of : Message → Result Call WireFault
call_of m = decoded m.target m.method m.body

-- the answer to a query is what the books show; no message asks for the list of bonds, which has no route
abbrev pub AnswersQuery : PlainBooks → Query → Answer → Type 0
AnswersQuery books (ask.Inventory customer month) (told.Sheet sheet) = ShowsQuery books (ask.Inventory customer month) (shown.Sheet sheet)
AnswersQuery books (ask.Ticket number) (told.Ticket ticket) = ShowsQuery books (ask.Ticket number) (shown.Ticket ticket)
AnswersQuery books (ask.Batch day) (told.Batch batch) = ShowsQuery books (ask.Batch day) (shown.Batch batch)
AnswersQuery books (ask.Value denom issued month) (told.Row row) = ShowsQuery books (ask.Value denom issued month) (shown.Row row)
AnswersQuery books (ask.Bonds customer) (told.Fault fault) = fault ≡ NoRoute
AnswersQuery books _ _ = ⊥

-- the answer to a request is the one reply to it, to a query what the books show, and to a fault that fault
abbrev pub IsAnswer : Content → Result Call WireFault → Answer → Type 0
IsAnswer c (Ok (call.Request request)) (told.Reply reply) = IsGiven reply (desk.answer c [] request)
IsAnswer c (Ok (call.Query query)) answer = AnswersQuery c.books query answer
IsAnswer c (Err fault) (told.Fault other) = other ≡ fault
IsAnswer c _ _ = ⊥

-- only a request changes the content
abbrev pub after_call : Content → Result Call WireFault → Content
after_call c (Ok (call.Request request)) = content_after c (request ∷ [])
after_call c (Ok (call.Query query)) = c
after_call c (Err fault) = c

-- each answer may instead be 503, if memory or the store failed
abbrev pub IsRight : Content → Result Call WireFault → Answer → Type 0
IsRight c call (told.Unserved cause) = ⊤
IsRight c call answer = IsAnswer c call answer

-- the content after an answer; 503 changes nothing
abbrev pub left_after : Content → Result Call WireFault → Answer → Content
left_after c call (told.Unserved cause) = c
left_after c call answer = after_call c call

-- the request in a call, which was served unless the answer is 503
abbrev pub attempts_in : Result Call WireFault → Answer → List Attempt
attempts_in (Ok (call.Request request)) (told.Unserved cause) = record { request = request; is_served = false } ∷ []
attempts_in (Ok (call.Request request)) answer = record { request = request; is_served = true } ∷ []
attempts_in (Ok (call.Query query)) answer = []
attempts_in (Err fault) answer = []

-- a right answer, and the content after it. `Has` is the relation of contents that the keeper then has, and of the attempts that
-- led there.
abbrev pub Answers : Content → Result Call WireFault → Answer → (Content → List Attempt → Type 0) → Type 0
Answers c call answer Has = IsRight c call answer × Has (left_after c call answer) (attempts_in call answer)

-- the texts of a request in a call fit the store
abbrev pub FitsCall : (Content → Request → Type 0) → Content → Result Call WireFault → Type 0
FitsCall fits c (Ok (call.Request request)) = fits c request
FitsCall fits c (Ok (call.Query query)) = ⊤
FitsCall fits c (Err fault) = ⊤

-- so do the texts of each request in a message that bytes begin with, whose body is bounded, whatever the store has
abbrev pub FitMessages : (Content → Request → Type 0) → Type 0
FitMessages fits = (c : Content) (bytes rest : List ℕ) (m : Message) → BeginsMessage bytes m rest → FitsCall fits c (call_of m)

-- the texts of a request and of its reply have at most this many bytes together
abbrev pub TextsWithin : ℕ → Content → Request → Type 0
TextsWithin most c request = length (act_text request.act) + length (reply_text (act c.books request.act).reply) ≤ most
