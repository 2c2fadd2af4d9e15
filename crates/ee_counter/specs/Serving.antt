-- What serving a connection writes, and the content after it (this project's rule).
use Rattle.std.specs.Prelude.{◌≡◌, ℕ, ◌+◌, ◌<◌, ◌≤◌, ◌⊎◌, ◌==◌, ◌||◌, Bool, true, false, List, [], ◌∷◌, ◌++◌, length, map, Option, Some, None, Result, Ok, Err, ⊤}
use Rattle.std.specs.List.{AllByRecursion, list_any}
use Rattle.std.specs.Option.{option_map_or}
use Rattle.std.specs.Io.KnownBytes.{Appends, Consumes, IsAtEnd}
use Rattle.ee_desk_model.specs.declared.acts.Request.{Request}
use Rattle.ee_desk_model.specs.declared.refusals.Unserved.TheVariants.{StoreFailed}
use Rattle.ee_desk_model.specs.Repeats.{Content}
use Rattle.ee_desk_laws.specs.Attempts.{Attempt}
use Rattle.ee_wire_framing.specs.declared.FramingFault.{FramingFault}
use Rattle.ee_wire_framing.specs.Framing.{Message, BeginsMessage, BeginsMessages, EndsWith, end}
use Rattle.ee_wire_framing.specs.Reading.{NeedsMore, ShowsFault, most_read}
use Rattle.ee_wire_calls.specs.declared.calls.Call.{Call}
use Rattle.ee_wire_calls.specs.declared.calls.Call.TheVariants as call
use Rattle.ee_wire_calls.specs.declared.faults.WireFault.{WireFault}
use Rattle.ee_wire_calls.specs.declared.faults.WireFault.TheVariants.{Framing}
use Rattle.ee_io.specs.Written.{WritesFront}
use Rattle.ee_wire.specs.Answers.{answer_text}
use Rattle.ee_wire.specs.declared.answers.Answer.{Answer}
use Rattle.ee_wire.specs.declared.answers.Answer.TheVariants as told
use Rattle.ee_counter.specs.Answering.{call_of, IsAnswer, after_call, IsRight, left_after, attempts_in}
use Rattle.ee_counter.specs.declared.connections.Ended.{Ended}
use Rattle.ee_counter.specs.declared.connections.Why.{Why}
use Rattle.ee_counter.specs.declared.connections.Why.TheVariants.{Closed, Asked, Limit, Fault, ReadFailed, WriteFailed, NoMemory}

-- ---- answers in order

-- a message, and the answer to it
pub record Told : Type 0 where
  pub message : Message
  pub answer : Answer

-- a connection ends after this many messages
abbrev pub most_messages : ℕ
most_messages = 1000

-- the connection ends with the answer to this message, after n others: the message asks for that, or is the 1,000th
abbrev pub is_last : ℕ → Message → Bool
is_last n m = m.closes || (n + 1 == most_messages)

abbrev pub text_of : ℕ → Told → List ℕ
text_of n t = answer_text t.answer (is_last n t.message)

-- the responses in order, after n others
abbrev pub texts : ℕ → List Told → List ℕ
texts n [] = []
texts n (t ∷ ts) = text_of n t ++ texts (n + 1) ts

-- the content after a message and its answer
abbrev pub left_by : Content → Told → Content
left_by c t = left_after c (call_of t.message) t.answer

abbrev pub left_by_all : Content → List Told → Content
left_by_all c [] = c
left_by_all c (t ∷ ts) = left_by_all (left_by c t) ts

-- each answer is right at the content after those before it
abbrev pub AreRight : Content → List Told → Type 0
AreRight c [] = ⊤
AreRight c (t ∷ ts) = IsRight c (call_of t.message) t.answer × AreRight (left_by c t) ts

-- each answer is that of the content after those before it, and none is 503
abbrev pub AreAnswered : Content → List Told → Type 0
AreAnswered c [] = ⊤
AreAnswered c (t ∷ ts) = IsAnswer c (call_of t.message) t.answer × AreAnswered (after_call c (call_of t.message)) ts

-- the request in a call, if it was served
abbrev pub request_in : Result Call WireFault → Answer → List Request
request_in (Ok (call.Request request)) (told.Unserved cause) = []
request_in (Ok (call.Request request)) answer = request ∷ []
request_in (Ok (call.Query query)) answer = []
request_in (Err cause) answer = []

-- the requests that were served
abbrev pub requests_in : List Told → List Request
requests_in [] = []
requests_in (t ∷ ts) = request_in (call_of t.message) t.answer ++ requests_in ts

-- the attempt of a message and its answer, if it asks for one
abbrev pub attempts_by : Told → List Attempt
attempts_by t = attempts_in (call_of t.message) t.answer

abbrev pub attempts_by_all : List Told → List Attempt
attempts_by_all [] = []
attempts_by_all (t ∷ ts) = attempts_by t ++ attempts_by_all ts

-- ---- a store that failed

-- an answer says that the store failed
abbrev pub tells_failure : Answer → Bool
tells_failure (told.Unserved StoreFailed) = true
tells_failure answer = false

abbrev pub told_failure : Told → Bool
told_failure t = tells_failure t.answer

-- one of the answers says that the store failed
abbrev pub any_told_failure : List Told → Bool
any_told_failure told = list_any told_failure told

-- ---- the end, at a content c, after n answers

-- the answer to a framing fault
abbrev pub fault_text : FramingFault → List ℕ
fault_text f = answer_text (told.Fault (Framing f)) true

-- not all of the text was written
abbrev pub CutsShort : List ℕ → Option (List ℕ) → Option (List ℕ) → Type 0
CutsShort text old new = WritesFront old new text false

-- the bytes begin with this next message, and this is its answer. `Has` is the relation of contents that the keeper then has, and
-- of the attempts that led there.
abbrev pub Tells : Told → List ℕ → Content → (Content → List Attempt → Type 0) → Type 0
Tells t bytes c Has =
    ((after : List ℕ) × BeginsMessage bytes t.message after) × IsRight c (call_of t.message) t.answer × Has (left_by c t) (attempts_by t)

-- how the connection ends, by its cause: the message whose answer ended it, if one did; the bytes that were read and not
-- answered; those that the reader has left; what was written before and after; the content and the number of answers before;
-- and the number after
abbrev pub EndsBy : Why → Option Told → List ℕ → Option (List ℕ) → Option (List ℕ) → Option (List ℕ) → Content → ℕ → ℕ → (Content → List Attempt → Type 0) → Type 0
-- every byte was answered, and none is left
EndsBy Closed None bytes remaining old new c n count Has = EndsWith bytes end × IsAtEnd remaining × Appends old new [] × (count ≡ n) × Has c []
EndsBy Asked (Some t) bytes remaining old new c n count Has =
    Tells t bytes c Has × (t.message.closes ≡ true) × Appends old new (text_of n t) × (count ≡ n + 1)
EndsBy Limit None bytes remaining old new c n count Has = (n ≡ most_messages) × Appends old new [] × (count ≡ n) × Has c []
EndsBy (Fault f) None bytes remaining old new c n count Has =
    ShowsFault bytes remaining f × Appends old new (fault_text f) × (count ≡ n + 1) × Has c []
-- the bytes that were read contain no whole message and no fault
EndsBy ReadFailed None bytes remaining old new c n count Has = NeedsMore bytes × Appends old new [] × (count ≡ n) × Has c []
-- memory was refused to the response to a message, which was decided: no byte of it was written
EndsBy NoMemory (Some t) bytes remaining old new c n count Has = Appends old new [] × (count ≡ n) × Tells t bytes c Has
-- memory was refused to more bytes, or to the response to a fault
EndsBy NoMemory None bytes remaining old new c n count Has =
    Appends old new [] × (count ≡ n) × (NeedsMore bytes ⊎ ((f : FramingFault) × ShowsFault bytes remaining f)) × Has c []
-- the message whose response was cut was decided
EndsBy WriteFailed (Some t) bytes remaining old new c n count Has = (count ≡ n) × Tells t bytes c Has × CutsShort (text_of n t) old new
EndsBy WriteFailed None bytes remaining old new c n count Has =
    (count ≡ n) × ((f : FramingFault) × ShowsFault bytes remaining f × CutsShort (fault_text f) old new) × Has c []
EndsBy _ _ bytes remaining old new c n count Has = ⊥

-- how the connection ends; it says that the store failed if an answer before said so (`was`), or the last one does
abbrev pub Ends : Ended → Bool → List ℕ → Option (List ℕ) → Option (List ℕ) → Option (List ℕ) → Content → ℕ → (Content → List Attempt → Type 0) → Type 0
Ends e was bytes remaining old new c n Has =
    (last : Option Told) × (e.store_failed ≡ (option_map_or told_failure last false || was))
    × EndsBy e.why last bytes remaining old new c n e.messages Has

-- ---- one turn

-- a failed reader or writer is reported only if that may have happened
abbrev pub DeviceFailsOnlyIf : Type 0 → Type 0 → Why → Type 0
DeviceFailsOnlyIf read_may write_may ReadFailed = read_may
DeviceFailsOnlyIf read_may write_may WriteFailed = write_may
DeviceFailsOnlyIf read_may write_may Closed = ⊤
DeviceFailsOnlyIf read_may write_may Asked = ⊤
DeviceFailsOnlyIf read_may write_may Limit = ⊤
DeviceFailsOnlyIf read_may write_may (Fault f) = ⊤
DeviceFailsOnlyIf read_may write_may NoMemory = ⊤

-- ---- whole connections

abbrev pub messages : List Told → List Message
messages ts = map (λ t. t.message) ts

-- the bytes begin with these messages, followed by rest; they were answered whole and in order, each at the content after
-- those before it, and none of them asks to close
pub record SoFar (bytes rest : List ℕ) (old : Option (List ℕ)) (new : Option (List ℕ)) (c : Content) (told : List Told) : Type 0 where
  pub begins : BeginsMessages bytes (messages told) rest
  pub right : AreRight c told
  pub none_asks : AllByRecursion (λ t. t.message.closes ≡ false) told
  pub wrote : Appends old new (texts 0 told)

-- nothing was read; or before the last read the bytes had an allowed number of whole messages, and the next wasn't whole
abbrev pub WereNeeded : (ℕ → Type 0) → List ℕ → Type 0
WereNeeded Few bytes =
    (bytes ≡ []) ⊎ ((early : List ℕ) × (last : List ℕ) × (bytes ≡ early ++ last) × (length last ≤ most_read)
    × ((done : List Message) × (others : List ℕ) × BeginsMessages early done others × NeedsMore others × Few (length done)))

-- after the 1,000th message none is read and none answered
abbrev pub AreFew : Why → ℕ → Type 0
AreFew why n = (n < most_messages) ⊎ ((why ≡ Limit) × (n ≡ most_messages))

-- the connection gave bytes that begin with these messages, which were answered, and then it ended: what the reader has
-- left before and after, what was written before and after, the content before, how it ended, and the relation of contents
-- that the keeper then has and of the attempts that led there
pub record Serves (before : Option (List ℕ)) (remaining : Option (List ℕ)) (old : Option (List ℕ)) (new : Option (List ℕ)) (c : Content) (e : Ended) (Has : Content → List Attempt → Type 0) : Type 0 where
  pub bytes : List ℕ
  pub read : Consumes before remaining bytes
  pub told : List Told
  -- nothing was read after the read that settled the end: before it, only these messages were whole, fewer than 1,000
  pub needed : WereNeeded (λ n. (n ≤ length told) × (n < most_messages)) bytes
  pub few : AreFew e.why (length told)
  pub rest : List ℕ
  pub wrote : Option (List ℕ)
  pub so_far : SoFar bytes rest old wrote c told
  pub ends : Ends e (any_told_failure told) rest remaining wrote new (left_by_all c told) (length told) (λ left more. Has left (attempts_by_all told ++ more))
