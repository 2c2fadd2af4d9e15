-- Definitions that private contracts alone cite; specs/Serving.antt has the others.
use Rattle.std.specs.Prelude.{◌≡◌, ℕ, ◌+◌, ◌||◌, Bool, true, false, List, [], ◌++◌, Option, ⊤}
use Rattle.std.specs.declared.ops.ControlFlow.{ControlFlow}
use Rattle.std.specs.declared.ops.ControlFlow.TheVariants.{Continue, Break}
use Rattle.std.specs.Io.KnownBytes.{Appends, Consumes}
use Rattle.ee_desk_model.specs.Repeats.{Content}
use Rattle.ee_desk_laws.specs.Attempts.{Attempt}
use Rattle.ee_wire_framing.specs.declared.FramingFault.{FramingFault}
use Rattle.ee_wire_framing.specs.Framing.{Message, BeginsMessage}
use Rattle.ee_wire_framing.specs.Reading.{AreNeeded}
use Rattle.ee_wire.specs.declared.answers.Answer.{Answer}
use Rattle.ee_counter.specs.Answering.{call_of, IsRight, Answers}
use Rattle.ee_counter.specs.declared.connections.Ended.{Ended}
use Rattle.ee_counter.specs.declared.connections.Why.{Why}
use Rattle.ee_counter.specs.declared.connections.Why.TheVariants.{Closed, Asked, Limit, Fault, ReadFailed, WriteFailed, NoMemory}
use Rattle.ee_counter.specs.Serving.{Told, text_of, left_by, attempts_by, tells_failure, told_failure, fault_text, CutsShort, Ends, DeviceFailsOnlyIf}

-- ---- one turn

-- the message m is answered, and the connection goes on or ends; `was`: an answer before said that the store failed
abbrev pub AnswersOne : Message → Option (List ℕ) → Option (List ℕ) → Content → ℕ → Bool → ControlFlow Ended Bool → (Content → List Attempt → Type 0) → Type 0
AnswersOne m old new c n was (Continue failed) Has =
    (answer : Answer) × Answers c (call_of m) answer Has × (m.closes ≡ false)
    × Appends old new (text_of n (record { message = m; answer = answer })) × (failed ≡ (tells_failure answer || was))
AnswersOne m old new c n was (Break e) Has =
    (bytes after : List ℕ) (remaining : Option (List ℕ)) → BeginsMessage bytes m after → Ends e was bytes remaining old new c n Has

-- the response to the fault is written whole, or not
abbrev pub RefusesBy : Why → FramingFault → Option (List ℕ) → Option (List ℕ) → ℕ → ℕ → Type 0
RefusesBy (Fault g) f old new n count = (g ≡ f) × Appends old new (fault_text f) × (count ≡ n + 1)
RefusesBy WriteFailed f old new n count = CutsShort (fault_text f) old new × (count ≡ n)
RefusesBy NoMemory f old new n count = Appends old new [] × (count ≡ n)
RefusesBy Closed f old new n count = ⊥
RefusesBy Asked f old new n count = ⊥
RefusesBy Limit f old new n count = ⊥
RefusesBy ReadFailed f old new n count = ⊥

abbrev pub Refuses : FramingFault → Option (List ℕ) → Option (List ℕ) → ℕ → Ended → Type 0
Refuses f old new n e = RefusesBy e.why f old new n e.messages

-- after these bytes more may be read, as they are needed; then a message is answered, and other bytes are left, or the
-- connection ends
abbrev pub Turns : List ℕ → List ℕ → Option (List ℕ) → Option (List ℕ) → Option (List ℕ) → Option (List ℕ) → Content → ℕ → Bool → ControlFlow Ended Bool → (Content → List Attempt → Type 0) → Type 0
Turns bytes others before after old new c n was (Continue failed) Has =
    (got : List ℕ) × Consumes before after got × AreNeeded bytes got
    × ((t : Told) × BeginsMessage (bytes ++ got) t.message others × IsRight c (call_of t.message) t.answer × Has (left_by c t) (attempts_by t)
    × (t.message.closes ≡ false) × Appends old new (text_of n t) × (failed ≡ (told_failure t || was)))
Turns bytes others before after old new c n was (Break e) Has =
    (got : List ℕ) × Consumes before after got × AreNeeded bytes got × Ends e was (bytes ++ got) after old new c n Has

-- a failed store is reported only if that may happen
abbrev pub FlowFailsOnlyIf : Type 0 → ControlFlow Ended Bool → Type 0
FlowFailsOnlyIf may_fail (Continue failed) = failed ≡ true → may_fail
FlowFailsOnlyIf may_fail (Break e) = e.store_failed ≡ true → may_fail

abbrev pub FlowDeviceFailsOnlyIf : Type 0 → Type 0 → ControlFlow Ended Bool → Type 0
FlowDeviceFailsOnlyIf read_may write_may (Continue failed) = ⊤
FlowDeviceFailsOnlyIf read_may write_may (Break e) = DeviceFailsOnlyIf read_may write_may e.why
