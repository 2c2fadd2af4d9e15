-- Answers to a message.
use Rattle.std.proofs.Common.{◌≡◌, ◌||◌, Bool, true, false, List, [], ◌∷◌, ◌++◌, ℕ, refl, subst, Option, Result, Ok, Err}
use Rattle.ee_calculator.specs.declared.rows.Row.{Row}
use Rattle.ee_calculator.specs.declared.sheets.Sheet.{Sheet}
use Rattle.ee_desk_model.specs.PlainBooks.{PlainBooks}
use Rattle.ee_desk_model.specs.Queries.{ShowsQuery}
use Rattle.ee_desk_model.specs.declared.replies.Batch.{Batch}
use Rattle.ee_desk_model.specs.declared.replies.Ticket.{Ticket}
use Rattle.ee_desk_model.specs.declared.queries.Query.{Query}
use Rattle.ee_desk_model.specs.declared.queries.Shown.TheVariants as shown
use Rattle.ee_wire_calls.specs.declared.faults.WireFault.TheVariants.{NoRoute}
use Rattle.ee_desk_model.specs.Repeats.{Content}
use Rattle.ee_desk_model.specs.declared.acts.Request.{Request}
use Rattle.ee_wire_framing.specs.Framing.{Message}
use Rattle.ee_wire_calls.specs.Calls.{decoded}
use Rattle.ee_wire_calls.specs.declared.calls.Call.{Call}
use Rattle.ee_wire_calls.specs.declared.calls.Call.TheVariants as call
use Rattle.ee_desk_model.specs.declared.queries.Query.TheVariants as ask
use Rattle.ee_wire_calls.specs.declared.faults.WireFault.{WireFault}
use Rattle.ee_desk_model.specs.declared.refusals.Unserved.{Unserved}
use Rattle.ee_wire.specs.declared.answers.Answer.{Answer}
use Rattle.ee_wire.specs.declared.answers.Answer.TheVariants as told
use Rattle.ee_desk_laws.specs.Attempts.{Attempt, LeadOn}
use Rattle.ee_desk_laws.specs.Events.{Event}
use Rattle.ee_desk_laws.specs.Events.Event.{Unserved as NotServed}
use Rattle.ee_desk_laws.proofs.Lemmas.{lead_nowhere, lead_unserved}
use Rattle.ee_counter.specs.Answering.{call_of, IsAnswer, after_call, attempts_in, Answers, AnswersQuery}

never_unserved : (c : Content) (asked : Result Call WireFault) (cause : Unserved) → IsAnswer c asked (told.Unserved cause) → ⊥
never_unserved c (Ok (call.Request request)) cause is = is
never_unserved c (Ok (call.Query (ask.Inventory customer month))) cause is = is
never_unserved c (Ok (call.Query (ask.Ticket number))) cause is = is
never_unserved c (Ok (call.Query (ask.Batch day))) cause is = is
never_unserved c (Ok (call.Query (ask.Value denom issued month))) cause is = is
never_unserved c (Ok (call.Query (ask.Bonds customer))) cause is = is
never_unserved c (Err fault) cause is = is

-- an answer that isn't 503 is right, and the content has changed by it
pub answered : (c : Content) (asked : Result Call WireFault) (answer : Answer) (Has : Content → List Attempt → Type 0)
    → IsAnswer c asked answer → Has (after_call c asked) (attempts_in asked answer) → Answers c asked answer Has
answered c asked (told.Reply x) Has is has = (is, has)
answered c asked (told.Sheet x) Has is has = (is, has)
answered c asked (told.Row x) Has is has = (is, has)
answered c asked (told.Ticket x) Has is has = (is, has)
answered c asked (told.Batch x) Has is has = (is, has)
answered c asked (told.Fault x) Has is has = (is, has)
answered c asked (told.Unserved x) Has is has = absurd (never_unserved c asked x is)

-- a message that memory was refused to: its request isn't served
pub starved : (Went : Content → List Event → Type 0) (asked : Result Call WireFault) (cause : Unserved)
    → ((start : Content) (events : List Event) (request : Request) → Went start events → Went start (events ++ NotServed request ∷ []))
    → LeadOn Went (attempts_in asked (told.Unserved cause)) Went
starved Went (Ok (call.Request request)) cause missed = lead_unserved Went Went request (λ start events. missed start events request)
starved Went (Ok (call.Query query)) cause missed = lead_nowhere Went
starved Went (Err fault) cause missed = lead_nowhere Went

-- the same of a message by its parts
pub of_parts : (m : Message) (target method body : List ℕ) (c : Content) (answer : Answer) (Has : Content → List Attempt → Type 0)
    → target ≡ m.target → method ≡ m.method → body ≡ m.body
    → Answers c (decoded target method body) answer Has → Answers c (call_of m) answer Has
of_parts m target method body c answer Has x y z =
    subst (λ (asked : Result Call WireFault). Answers c asked answer Has) (λ i. decoded (x i) (y i) (z i))

-- what the books show for a query is the answer to it
pub sheet_answers : (books : PlainBooks) (query : Query) (sheet : Sheet) → ShowsQuery books query (shown.Sheet sheet) → AnswersQuery books query (told.Sheet sheet)
sheet_answers books (ask.Inventory customer month) sheet is = is
sheet_answers books (ask.Bonds customer) sheet is = absurd is
sheet_answers books (ask.Ticket number) sheet is = absurd is
sheet_answers books (ask.Batch day) sheet is = absurd is
sheet_answers books (ask.Value denom issued month) sheet is = absurd is

pub ticket_answers : (books : PlainBooks) (query : Query) (ticket : Option Ticket) → ShowsQuery books query (shown.Ticket ticket) → AnswersQuery books query (told.Ticket ticket)
ticket_answers books (ask.Inventory customer month) ticket is = absurd is
ticket_answers books (ask.Bonds customer) ticket is = absurd is
ticket_answers books (ask.Ticket number) ticket is = is
ticket_answers books (ask.Batch day) ticket is = absurd is
ticket_answers books (ask.Value denom issued month) ticket is = absurd is

pub batch_answers : (books : PlainBooks) (query : Query) (batch : Option Batch) → ShowsQuery books query (shown.Batch batch) → AnswersQuery books query (told.Batch batch)
batch_answers books (ask.Inventory customer month) batch is = absurd is
batch_answers books (ask.Bonds customer) batch is = absurd is
batch_answers books (ask.Ticket number) batch is = absurd is
batch_answers books (ask.Batch day) batch is = is
batch_answers books (ask.Value denom issued month) batch is = absurd is

pub row_answers : (books : PlainBooks) (query : Query) (row : Option Row) → ShowsQuery books query (shown.Row row) → AnswersQuery books query (told.Row row)
row_answers books (ask.Inventory customer month) row is = absurd is
row_answers books (ask.Bonds customer) row is = absurd is
row_answers books (ask.Ticket number) row is = absurd is
row_answers books (ask.Batch day) row is = absurd is
row_answers books (ask.Value denom issued month) row is = is

pub bonds_answer : (books : PlainBooks) (query : Query) (bonds : _) → ShowsQuery books query (shown.Bonds bonds) → AnswersQuery books query (told.Fault NoRoute)
bonds_answer books (ask.Inventory customer month) bonds is = absurd is
bonds_answer books (ask.Bonds customer) bonds is = refl
bonds_answer books (ask.Ticket number) bonds is = absurd is
bonds_answer books (ask.Batch day) bonds is = absurd is
bonds_answer books (ask.Value denom issued month) bonds is = absurd is

-- of one of two or the other the same follows
pub either : (a b : Bool) (P : Type 0) → (a ≡ true → P) → (b ≡ true → P) → (a || b) ≡ true → P
either true b P x y is = x refl
either false b P x y is = y is
