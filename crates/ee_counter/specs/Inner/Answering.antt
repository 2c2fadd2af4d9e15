-- Definitions that private contracts alone cite; specs/Answering.antt has the others.
use Rattle.std.specs.Prelude.{List, Result, Ok, Err}
use Rattle.ee_desk_model.specs.Repeats.{Content}
use Rattle.ee_desk_model.specs.declared.refusals.Unserved.{Unserved}
use Rattle.ee_desk_laws.specs.Attempts.{Attempt}
use Rattle.ee_wire_calls.specs.declared.calls.Call.{Call}
use Rattle.ee_wire_calls.specs.declared.calls.Call.TheVariants as call
use Rattle.ee_wire_calls.specs.declared.faults.WireFault.{WireFault}
use Rattle.ee_wire.specs.declared.answers.Answer.{Answer}
use Rattle.ee_wire.specs.declared.answers.Answer.TheVariants as told
use Rattle.ee_counter.specs.Answering.{IsAnswer, after_call, attempts_in}

-- the answer; or none, and then nothing has changed
abbrev pub AnswersUnless : Content → Result Call WireFault → Result Answer Unserved → (Content → List Attempt → Type 0) → Type 0
AnswersUnless c call (Ok answer) Has = IsAnswer c call answer × Has (after_call c call) (attempts_in call answer)
AnswersUnless c call (Err unserved) Has = Has c (attempts_in call (told.Unserved unserved))
