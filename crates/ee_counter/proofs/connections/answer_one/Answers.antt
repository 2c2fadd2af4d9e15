use Rattle.std.proofs.Common.{◌≡◌, ◌⊎◌, ◌∙◌, inl, inr, true, refl, sym, subst, arith, List, ℕ, Some, Err}
use Rattle.std.specs.Io.KnownBytes.{Appends}
use Rattle.ee_keeper.specs.Keeping.{FailedIn}
use Rattle.ee_wire_framing.specs.Reading.{message_in}
use Rattle.ee_wire.specs.Answers.{answer_text, WritesAnswer}
use Rattle.ee_wire.specs.declared.answers.WriteEnd.{WriteEnd}
use Rattle.ee_counter.specs.Serving.{CutsShort, tells_failure}
use Rattle.ee_counter.proofs.Right.{either}
use Rattle.ee_counter.proofs.Turns.{text_is, whole}
use Rattle.ee_counter.proofs.connections.answer_one.Goals as goal

pub returns-in-Ok-clause-answers : goal.returns-in-Ok-clause-answers
returns-in-Ok-clause-answers g c = λ clean d has bytes after remaining at.
    let m = message_in c.args.buffer.now.shown c.args.message in
    let a = c.answer_to-answer.result in
    let right = c.answer_to-answer.ensures.answers clean d has in
    let old = g.W.Write.contents c.args.writer.now in
    let new = g.W.Write.contents c.write_reply.new.writer in
    let text = text_is c.args.messages m a c.is_last-closing.result c.is_last-closing.ensures in (
      Some (record { message = m; answer = a }),
      c.has_failed-store_failed.ensures,
      (((after, at), right.0, right.1), c.if-message.true, subst (Appends old new) text (whole (answer_text a c.is_last-closing.result) old new c.in-Ok.ensures.written), refl),
    )

pub returns-in-Ok-2-clause-answers : goal.returns-in-Ok-2-clause-answers
returns-in-Ok-2-clause-answers g c = λ clean d has.
    let m = message_in c.args.buffer.now.shown c.args.message in
    let a = c.answer_to-answer.result in
    let old = g.W.Write.contents c.args.writer.now in
    let new = g.W.Write.contents c.write_reply.new.writer in
    let text = text_is c.args.messages m a c.is_last-closing.result c.is_last-closing.ensures in
    (a, c.answer_to-answer.ensures.answers clean d has, c.if-message.false, subst (Appends old new) text (whole (answer_text a c.is_last-closing.result) old new c.in-Ok-2.ensures.written), c.has_failed-store_failed.ensures)

pub returns-in-Err-WriteFailed-clause-answers : goal.returns-in-Err-WriteFailed-clause-answers
returns-in-Err-WriteFailed-clause-answers g c = λ clean d has bytes after remaining at.
    let m = message_in c.args.buffer.now.shown c.args.message in
    let a = c.answer_to-answer.result in
    let right = c.answer_to-answer.ensures.answers clean d has in
    let old = g.W.Write.contents c.args.writer.now in
    let new = g.W.Write.contents c.write_reply.new.writer in
    let cut = subst (λ (e : WriteEnd). WritesAnswer (answer_text a c.is_last-closing.result) old new (Err e)) c.in-Err-WriteFailed.field-0-is c.in-Err-WriteFailed.ensures.written in
    let text = text_is c.args.messages m a c.is_last-closing.result c.is_last-closing.ensures in (
      Some (record { message = m; answer = a }),
      c.has_failed-store_failed.ensures,
      (refl, ((after, at), right.0, right.1), subst (λ (x : List ℕ). CutsShort x old new) text cut),
    )

pub returns-clause-answers : goal.returns-clause-answers
returns-clause-answers g c = λ clean d has bytes after remaining at.
    let m = message_in c.args.buffer.now.shown c.args.message in
    let a = c.answer_to-answer.result in
    let right = c.answer_to-answer.ensures.answers clean d has in
    let old = g.W.Write.contents c.args.writer.now in
    let new = g.W.Write.contents c.write_reply.new.writer in
    let none = subst (λ (e : WriteEnd). WritesAnswer (answer_text a c.is_last-closing.result) old new (Err e)) c.in-Err-NoMemory.field-0-is c.in-Err-NoMemory.ensures.written in
    (Some (record { message = m; answer = a }), c.has_failed-store_failed.ensures, (none, refl, ((after, at), right.0, right.1)))

pub returns-in-Ok-clause-failed : goal.returns-in-Ok-clause-failed
returns-in-Ok-clause-failed g c = λ yes.
    either (tells_failure c.answer_to-answer.result) c.args.store_failed g.K.Keeper.may_fail c.answer_to-answer.ensures.failed c.requires.failed (sym c.has_failed-store_failed.ensures ∙ yes)

pub returns-in-Ok-2-clause-failed : goal.returns-in-Ok-2-clause-failed
returns-in-Ok-2-clause-failed g c = λ yes.
    either (tells_failure c.answer_to-answer.result) c.args.store_failed g.K.Keeper.may_fail c.answer_to-answer.ensures.failed c.requires.failed (sym c.has_failed-store_failed.ensures ∙ yes)

pub returns-in-Err-WriteFailed-clause-failed : goal.returns-in-Err-WriteFailed-clause-failed
returns-in-Err-WriteFailed-clause-failed g c = λ yes.
    either (tells_failure c.answer_to-answer.result) c.args.store_failed g.K.Keeper.may_fail c.answer_to-answer.ensures.failed c.requires.failed (sym c.has_failed-store_failed.ensures ∙ yes)

pub returns-clause-failed : goal.returns-clause-failed
returns-clause-failed g c = λ yes.
    either (tells_failure c.answer_to-answer.result) c.args.store_failed g.K.Keeper.may_fail c.answer_to-answer.ensures.failed c.requires.failed (sym c.has_failed-store_failed.ensures ∙ yes)

pub returns-in-Ok-clause-few : goal.returns-in-Ok-clause-few
returns-in-Ok-clause-few g c = omega (arith, c.requires.few)

pub returns-in-Err-WriteFailed-clause-few : goal.returns-in-Err-WriteFailed-clause-few
returns-in-Err-WriteFailed-clause-few g c = omega (arith, c.requires.few)

pub returns-clause-few : goal.returns-clause-few
returns-clause-few g c = omega (arith, c.requires.few)

pub returns-in-Ok-clause-device : goal.returns-in-Ok-clause-device
returns-in-Ok-clause-device g c = tt

pub returns-in-Ok-2-clause-device : goal.returns-in-Ok-2-clause-device
returns-in-Ok-2-clause-device g c = tt

pub returns-in-Err-WriteFailed-clause-device : goal.returns-in-Err-WriteFailed-clause-device
returns-in-Err-WriteFailed-clause-device g c = c.in-Err-WriteFailed.ensures.failed c.in-Err-WriteFailed.field-0-is

pub returns-clause-device : goal.returns-clause-device
returns-clause-device g c = tt

pub returns-in-Ok-clause-cause : goal.returns-in-Ok-clause-cause
returns-in-Ok-clause-cause g c = λ clean d has n takes fits yes.
    either (tells_failure c.answer_to-answer.result) c.args.store_failed ((c.args.store_failed ≡ true) ⊎ FailedIn g.K.Keeper.is_open g.K.Keeper.faults c.args.keeper.now c.answer_to-answer.new.keeper)
    (λ told. inr (c.answer_to-answer.ensures.cause clean d has n takes fits told)) (λ before. inl before) (sym c.has_failed-store_failed.ensures ∙ yes)

pub returns-in-Ok-2-clause-cause : goal.returns-in-Ok-2-clause-cause
returns-in-Ok-2-clause-cause g c = λ clean d has n takes fits yes.
    either (tells_failure c.answer_to-answer.result) c.args.store_failed ((c.args.store_failed ≡ true) ⊎ FailedIn g.K.Keeper.is_open g.K.Keeper.faults c.args.keeper.now c.answer_to-answer.new.keeper)
    (λ told. inr (c.answer_to-answer.ensures.cause clean d has n takes fits told)) (λ before. inl before) (sym c.has_failed-store_failed.ensures ∙ yes)

pub returns-in-Err-WriteFailed-clause-cause : goal.returns-in-Err-WriteFailed-clause-cause
returns-in-Err-WriteFailed-clause-cause g c = λ clean d has n takes fits yes.
    either (tells_failure c.answer_to-answer.result) c.args.store_failed ((c.args.store_failed ≡ true) ⊎ FailedIn g.K.Keeper.is_open g.K.Keeper.faults c.args.keeper.now c.answer_to-answer.new.keeper)
    (λ told. inr (c.answer_to-answer.ensures.cause clean d has n takes fits told)) (λ before. inl before) (sym c.has_failed-store_failed.ensures ∙ yes)

pub returns-clause-cause : goal.returns-clause-cause
returns-clause-cause g c = λ clean d has n takes fits yes.
    either (tells_failure c.answer_to-answer.result) c.args.store_failed ((c.args.store_failed ≡ true) ⊎ FailedIn g.K.Keeper.is_open g.K.Keeper.faults c.args.keeper.now c.answer_to-answer.new.keeper)
    (λ told. inr (c.answer_to-answer.ensures.cause clean d has n takes fits told)) (λ before. inl before) (sym c.has_failed-store_failed.ensures ∙ yes)
