use Rattle.std.proofs.Common.{◌≡◌, ◌∙◌, ◌++◌, inl, sym, subst, Ok, Err}
use Rattle.ee_wire_framing.specs.declared.buffer.Next.{Next}
use Rattle.ee_wire_framing.specs.declared.buffer.WireEnd.{WireEnd}
use Rattle.ee_wire_framing.specs.Reading.{message_in, Settles, stop_of}
use Rattle.ee_desk_laws.proofs.Lemmas.{lead_nowhere}
use Rattle.ee_keeper.specs.Keeping.{HasAfter}
use Rattle.ee_keeper.proofs.Lemmas.{continues_itself}
use Rattle.ee_counter.proofs.Turns.{goes_on, turn_closed, turn_failed, turn_refused, turn_starved, turn_told, writer_alone, writer_in_flow}
use Rattle.ee_counter.proofs.connections.turn.Goals as goal

pub returns-in-Ok-Message-clause-turns : goal.returns-in-Ok-Message-clause-turns
returns-in-Ok-Message-clause-turns g c = λ clean d has.
    let before = g.R.Read.remaining c.args.reader.now in
    let after = g.R.Read.remaining c.next_message.new.reader in
    turn_told c.args.buffer.now c.next_message.new.buffer before after (g.W.Write.contents c.args.writer.now) (g.W.Write.contents c.answer_one.new.writer)
    c.in-Ok-Message.message d c.args.messages c.args.store_failed c.answer_one.result (HasAfter (g.K.Keeper.has c.answer_one.new.keeper) (g.K.Keeper.went c.args.keeper.now) (g.K.Keeper.went c.answer_one.new.keeper)) (c.next_message.ensures.takes c.requires.open)
    (subst (λ (x : Next). Settles (Ok x) c.next_message.new.buffer after) c.in-Ok-Message.field-0-is (c.in-Ok-Message.ensures.settles c.requires.open))
    (c.answer_one.ensures.answers clean d has)

pub returns-in-Ok-End-clause-turns : goal.returns-in-Ok-End-clause-turns
returns-in-Ok-End-clause-turns g c = λ clean d has.
    let before = g.R.Read.remaining c.args.reader.now in
    let after = g.R.Read.remaining c.next_message.new.reader in
    turn_closed c.args.buffer.now c.next_message.new.buffer before after (g.W.Write.contents c.args.writer.now) d c.args.messages c.args.store_failed (HasAfter (g.K.Keeper.has c.args.keeper.now) (g.K.Keeper.went c.args.keeper.now) (g.K.Keeper.went c.args.keeper.now))
    (c.next_message.ensures.takes c.requires.open)
    (subst (λ (x : Next). Settles (Ok x) c.next_message.new.buffer after) c.in-Ok-End.field-0-is (c.in-Ok-End.ensures.settles c.requires.open)) (has, lead_nowhere (g.K.Keeper.went c.args.keeper.now))

pub returns-in-Err-Fault-clause-turns : goal.returns-in-Err-Fault-clause-turns
returns-in-Err-Fault-clause-turns g c = λ clean d has.
    let before = g.R.Read.remaining c.args.reader.now in
    let after = g.R.Read.remaining c.next_message.new.reader in
    turn_refused c.args.buffer.now c.next_message.new.buffer before after (g.W.Write.contents c.args.writer.now) (g.W.Write.contents c.refuse.new.writer)
    c.in-Err-Fault.fault d c.args.messages c.args.store_failed c.refuse.result (HasAfter (g.K.Keeper.has c.args.keeper.now) (g.K.Keeper.went c.args.keeper.now) (g.K.Keeper.went c.args.keeper.now)) (c.next_message.ensures.takes c.requires.open)
    (subst (λ (x : WireEnd). Settles (Err x) c.next_message.new.buffer after) c.in-Err-Fault.field-0-is (c.in-Err-Fault.ensures.settles c.requires.open))
    c.refuse.ensures.refuses c.refuse.ensures.failed (has, lead_nowhere (g.K.Keeper.went c.args.keeper.now))

pub returns-in-Err-ReadFailed-clause-turns : goal.returns-in-Err-ReadFailed-clause-turns
returns-in-Err-ReadFailed-clause-turns g c = λ clean d has.
    let before = g.R.Read.remaining c.args.reader.now in
    let after = g.R.Read.remaining c.next_message.new.reader in
    turn_failed c.args.buffer.now c.next_message.new.buffer before after (g.W.Write.contents c.args.writer.now) d c.args.messages c.args.store_failed (HasAfter (g.K.Keeper.has c.args.keeper.now) (g.K.Keeper.went c.args.keeper.now) (g.K.Keeper.went c.args.keeper.now))
    (c.next_message.ensures.takes c.requires.open)
    (subst (λ (x : WireEnd). Settles (Err x) c.next_message.new.buffer after) c.in-Err-ReadFailed.field-0-is (c.in-Err-ReadFailed.ensures.settles c.requires.open)) (has, lead_nowhere (g.K.Keeper.went c.args.keeper.now))

pub returns-in-Err-NoMemory-clause-turns : goal.returns-in-Err-NoMemory-clause-turns
returns-in-Err-NoMemory-clause-turns g c = λ clean d has.
    let before = g.R.Read.remaining c.args.reader.now in
    let after = g.R.Read.remaining c.next_message.new.reader in
    turn_starved c.args.buffer.now c.next_message.new.buffer before after (g.W.Write.contents c.args.writer.now) d c.args.messages c.args.store_failed (HasAfter (g.K.Keeper.has c.args.keeper.now) (g.K.Keeper.went c.args.keeper.now) (g.K.Keeper.went c.args.keeper.now))
    (c.next_message.ensures.takes c.requires.open)
    (subst (λ (x : WireEnd). Settles (Err x) c.next_message.new.buffer after) c.in-Err-NoMemory.field-0-is (c.in-Err-NoMemory.ensures.settles c.requires.open)) (has, lead_nowhere (g.K.Keeper.went c.args.keeper.now))

pub returns-in-Err-Fault-clause-open : goal.returns-in-Err-Fault-clause-open
returns-in-Err-Fault-clause-open g c = tt

pub returns-in-Ok-Message-clause-open : goal.returns-in-Ok-Message-clause-open
returns-in-Ok-Message-clause-open g c =
    goes_on c.answer_one.result
    (subst (λ (x : Next). c.next_message.new.buffer.ended ≡ stop_of (Ok x)) c.in-Ok-Message.field-0-is (c.in-Ok-Message.ensures.ended c.requires.open))

pub returns-in-Ok-Message-clause-device : goal.returns-in-Ok-Message-clause-device
returns-in-Ok-Message-clause-device g c =
    writer_in_flow (g.R.Source.may_have_failed c.next_message.new.reader) (g.W.Sink.may_have_failed c.answer_one.new.writer) c.answer_one.result c.answer_one.ensures.device

pub returns-in-Ok-End-clause-device : goal.returns-in-Ok-End-clause-device
returns-in-Ok-End-clause-device g c = tt

pub returns-in-Err-Fault-clause-device : goal.returns-in-Err-Fault-clause-device
returns-in-Err-Fault-clause-device g c =
    writer_alone (g.R.Source.may_have_failed c.next_message.new.reader) (g.W.Sink.may_have_failed c.refuse.new.writer) c.refuse.result.why c.refuse.ensures.device

pub returns-in-Err-ReadFailed-clause-device : goal.returns-in-Err-ReadFailed-clause-device
returns-in-Err-ReadFailed-clause-device g c = c.in-Err-ReadFailed.ensures.failed c.requires.open c.in-Err-ReadFailed.field-0-is

pub returns-in-Err-NoMemory-clause-device : goal.returns-in-Err-NoMemory-clause-device
returns-in-Err-NoMemory-clause-device g c = tt

pub returns-in-Ok-Message-clause-cause : goal.returns-in-Ok-Message-clause-cause
returns-in-Ok-Message-clause-cause g c = λ clean d has n takes fit.
    let now = c.next_message.new.buffer in
    c.answer_one.ensures.cause clean d has n takes (fit d (now.shown ++ now.held) now.held (message_in now.shown c.in-Ok-Message.message)
    (subst (λ (x : Next). Settles (Ok x) now (g.R.Read.remaining c.next_message.new.reader)) c.in-Ok-Message.field-0-is (c.in-Ok-Message.ensures.settles c.requires.open)))

pub returns-in-Ok-End-clause-cause : goal.returns-in-Ok-End-clause-cause
returns-in-Ok-End-clause-cause g c = λ clean d has n takes fit yes. inl yes

pub returns-in-Err-Fault-clause-cause : goal.returns-in-Err-Fault-clause-cause
returns-in-Err-Fault-clause-cause g c = λ clean d has n takes fit yes. inl (sym c.refuse.ensures.failed ∙ yes)

pub returns-in-Err-ReadFailed-clause-cause : goal.returns-in-Err-ReadFailed-clause-cause
returns-in-Err-ReadFailed-clause-cause g c = λ clean d has n takes fit yes. inl yes

pub returns-in-Err-NoMemory-clause-cause : goal.returns-in-Err-NoMemory-clause-cause
returns-in-Err-NoMemory-clause-cause g c = λ clean d has n takes fit yes. inl yes

pub returns-in-Ok-End-clause-ready : goal.returns-in-Ok-End-clause-ready
returns-in-Ok-End-clause-ready g c = λ clean d has n takes. g.met.K.Keeper.fewer c.args.keeper.now n takes

pub returns-in-Ok-End-clause-continues : goal.returns-in-Ok-End-clause-continues
returns-in-Ok-End-clause-continues g c = continues_itself g.K.Keeper.is_clean g.K.Keeper.is_guarded g.K.Keeper.is_open g.K.Keeper.faults c.args.keeper.now

pub returns-in-Err-Fault-clause-ready : goal.returns-in-Err-Fault-clause-ready
returns-in-Err-Fault-clause-ready g c = λ clean d has n takes. g.met.K.Keeper.fewer c.args.keeper.now n takes

pub returns-in-Err-Fault-clause-continues : goal.returns-in-Err-Fault-clause-continues
returns-in-Err-Fault-clause-continues g c = continues_itself g.K.Keeper.is_clean g.K.Keeper.is_guarded g.K.Keeper.is_open g.K.Keeper.faults c.args.keeper.now

pub returns-in-Err-ReadFailed-clause-ready : goal.returns-in-Err-ReadFailed-clause-ready
returns-in-Err-ReadFailed-clause-ready g c = λ clean d has n takes. g.met.K.Keeper.fewer c.args.keeper.now n takes

pub returns-in-Err-ReadFailed-clause-continues : goal.returns-in-Err-ReadFailed-clause-continues
returns-in-Err-ReadFailed-clause-continues g c = continues_itself g.K.Keeper.is_clean g.K.Keeper.is_guarded g.K.Keeper.is_open g.K.Keeper.faults c.args.keeper.now

pub returns-in-Err-NoMemory-clause-ready : goal.returns-in-Err-NoMemory-clause-ready
returns-in-Err-NoMemory-clause-ready g c = λ clean d has n takes. g.met.K.Keeper.fewer c.args.keeper.now n takes

pub returns-in-Err-NoMemory-clause-continues : goal.returns-in-Err-NoMemory-clause-continues
returns-in-Err-NoMemory-clause-continues g c = continues_itself g.K.Keeper.is_clean g.K.Keeper.is_guarded g.K.Keeper.is_open g.K.Keeper.faults c.args.keeper.now
