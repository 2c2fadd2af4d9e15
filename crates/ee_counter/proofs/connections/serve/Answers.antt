use Rattle.ee_desk_laws.proofs.Lemmas.{lead_nowhere}
use Rattle.ee_keeper.specs.Keeping.{HasAfter}
use Rattle.ee_keeper.proofs.Lemmas.{continues_itself, continues_on, failed_in_turn, takes_fewer}
use Rattle.ee_counter.specs.Serving.{left_by_all}
use Rattle.ee_counter.proofs.Turns.{none_told, serves_ended, serves_limit, turn_more}
use Rattle.std.proofs.Common.{◌≡◌, ◌+◌, ◌-◌, ◌≤◌, add-zero, subst, true, ap, arith, rules}
use Rattle.ee_wire_framing.specs.Stream.{Stream}
use Rattle.ee_counter.proofs.connections.serve.Goals as goal

pub loop-messages-init : goal.loop-messages-init
loop-messages-init g c = record {
  open_yet = search rules;
  failed = λ yes. absurd (cc);
  continues = continues_itself g.K.Keeper.is_clean g.K.Keeper.is_guarded g.K.Keeper.is_open g.K.Keeper.faults c.args.keeper.now;
  ready = λ clean d has n takes. subst (λ m. g.K.Keeper.takes m c.args.keeper.now) (add-zero n) takes;
  cause = λ clean d has n takes fit yes. absurd (cc);
  so_far = λ clean d has. none_told (g.R.Read.remaining c.args.reader.now) (g.W.Write.contents c.args.writer.now) c.new-buffer.result.held d
      (HasAfter (g.K.Keeper.has c.args.keeper.now) (g.K.Keeper.went c.args.keeper.now) (g.K.Keeper.went c.args.keeper.now))
      (ap (λ (s : Stream). s.held) c.new-buffer.ensures) (has, lead_nowhere (g.K.Keeper.went c.args.keeper.now));
}

pub loop-messages-preserved : goal.loop-messages-preserved
loop-messages-preserved g c = record {
  open_yet = c.in-Continue.ensures.open;
  failed = c.in-Continue.ensures.failed;
  continues = continues_on g.K.Keeper.is_clean g.K.Keeper.is_guarded g.K.Keeper.is_open g.K.Keeper.faults c.args.keeper.now c.loop-messages.keeper c.turn.new.keeper
      c.loop-messages.invariant.continues c.turn.ensures.continues;
  ready = λ clean d has n takes.
      let before = c.turn.ensures.continues.clean clean in
      let one_less : n + (c.loop-messages.messages + 1) ≡ (n + 1) + c.loop-messages.messages = omega arith in
      let told = c.loop-messages.invariant.so_far before d has in
      c.turn.ensures.ready clean (left_by_all d told.3.0) told.3.4.0 n
      (c.loop-messages.invariant.ready before d has (n + 1) (subst (λ m. g.K.Keeper.takes m c.args.keeper.now) one_less takes));
  cause = λ clean d has n takes fit yes.
      let before = c.turn.ensures.continues.clean clean in
      let one_less : n + (c.loop-messages.messages + 1) ≡ (n + 1) + c.loop-messages.messages = omega arith in
      let taken = subst (λ m. g.K.Keeper.takes m c.args.keeper.now) one_less takes in
      let told = c.loop-messages.invariant.so_far before d has in
      failed_in_turn g.K.Keeper.is_clean g.K.Keeper.is_guarded g.K.Keeper.is_open g.K.Keeper.faults c.args.keeper.now c.loop-messages.keeper c.turn.new.keeper
      (c.loop-messages.store_failed ≡ true) clean c.loop-messages.invariant.continues c.turn.ensures.continues
      (c.loop-messages.invariant.cause before d has (n + 1) taken fit)
      (c.in-Continue.ensures.cause clean (left_by_all d told.3.0) told.3.4.0 n (c.loop-messages.invariant.ready before d has (n + 1) taken) fit yes);
  so_far = λ clean d has. turn_more (g.R.Read.remaining c.args.reader.now) (g.R.Read.remaining c.loop-messages.reader) (g.R.Read.remaining c.turn.new.reader)
      (g.W.Write.contents c.args.writer.now) (g.W.Write.contents c.loop-messages.writer) (g.W.Write.contents c.turn.new.writer)
      c.loop-messages.buffer.held c.turn.new.buffer.held d c.loop-messages.messages c.loop-messages.store_failed c.in-Continue.failed
      (g.K.Keeper.has c.loop-messages.keeper) (g.K.Keeper.has c.turn.new.keeper)
      (g.K.Keeper.went c.args.keeper.now) (g.K.Keeper.went c.loop-messages.keeper) (g.K.Keeper.went c.turn.new.keeper)
      (c.loop-messages.invariant.so_far (c.turn.ensures.continues.clean clean) d has) (c.in-Continue.ensures.turns clean);
}

pub returns-in-Break-clause-serves : goal.returns-in-Break-clause-serves
returns-in-Break-clause-serves g c = λ clean d has.
    serves_ended (g.R.Read.remaining c.args.reader.now) (g.R.Read.remaining c.loop-messages.reader) (g.R.Read.remaining c.turn.new.reader)
    (g.W.Write.contents c.args.writer.now) (g.W.Write.contents c.loop-messages.writer) (g.W.Write.contents c.turn.new.writer)
    c.loop-messages.buffer.held c.turn.new.buffer.held d c.loop-messages.messages c.loop-messages.store_failed c.in-Break.ended
    (g.K.Keeper.has c.loop-messages.keeper) (g.K.Keeper.has c.turn.new.keeper)
    (g.K.Keeper.went c.args.keeper.now) (g.K.Keeper.went c.loop-messages.keeper) (g.K.Keeper.went c.turn.new.keeper)
    (c.loop-messages.invariant.so_far (c.turn.ensures.continues.clean clean) d has) (omega arith) (c.in-Break.ensures.turns clean)

pub returns-clause-serves : goal.returns-clause-serves
returns-clause-serves g c = λ clean d has.
    serves_limit (g.R.Read.remaining c.args.reader.now) (g.R.Read.remaining c.loop-messages.reader)
    (g.W.Write.contents c.args.writer.now) (g.W.Write.contents c.loop-messages.writer) c.loop-messages.buffer.held d c.loop-messages.messages c.loop-messages.store_failed
    (HasAfter (g.K.Keeper.has c.loop-messages.keeper) (g.K.Keeper.went c.args.keeper.now) (g.K.Keeper.went c.loop-messages.keeper)) (omega arith) (c.loop-messages.invariant.so_far clean d has)

pub returns-in-Break-clause-device : goal.returns-in-Break-clause-device
returns-in-Break-clause-device g c = c.in-Break.ensures.device

pub returns-clause-device : goal.returns-clause-device
returns-clause-device g c = tt

pub returns-in-Break-clause-continues : goal.returns-in-Break-clause-continues
returns-in-Break-clause-continues g c =
    continues_on g.K.Keeper.is_clean g.K.Keeper.is_guarded g.K.Keeper.is_open g.K.Keeper.faults c.args.keeper.now c.loop-messages.keeper c.turn.new.keeper
    c.loop-messages.invariant.continues c.turn.ensures.continues

pub returns-clause-continues : goal.returns-clause-continues
returns-clause-continues g c = c.loop-messages.invariant.continues

pub returns-in-Break-clause-ready : goal.returns-in-Break-clause-ready
returns-in-Break-clause-ready g c = λ clean d has n takes.
    let before = c.turn.ensures.continues.clean clean in
    let told = c.loop-messages.invariant.so_far before d has in
    let few : c.loop-messages.messages + 1 ≤ 1000 = omega arith in
    let left : n + 1000 ≡ ((n + (999 - c.loop-messages.messages)) + 1) + c.loop-messages.messages = omega (arith, few) in
    c.turn.ensures.ready clean (left_by_all d told.3.0) told.3.4.0 n
    (takes_fewer g.K.Keeper.takes c.loop-messages.keeper (g.met.K.Keeper.fewer c.loop-messages.keeper) (n + 1) ((n + (999 - c.loop-messages.messages)) + 1) (omega arith)
    (c.loop-messages.invariant.ready before d has ((n + (999 - c.loop-messages.messages)) + 1) (subst (λ m. g.K.Keeper.takes m c.args.keeper.now) left takes)))

pub returns-clause-ready : goal.returns-clause-ready
returns-clause-ready g c = λ clean d has n takes.
    let done : n + 1000 ≡ n + c.loop-messages.messages = omega arith in
    c.loop-messages.invariant.ready clean d has n (subst (λ m. g.K.Keeper.takes m c.args.keeper.now) done takes)

pub returns-in-Break-clause-cause : goal.returns-in-Break-clause-cause
returns-in-Break-clause-cause g c = λ clean d has n takes fit yes.
    let before = c.turn.ensures.continues.clean clean in
    let told = c.loop-messages.invariant.so_far before d has in
    let few : c.loop-messages.messages + 1 ≤ 1000 = omega arith in
    let left : n + 1000 ≡ ((n + (999 - c.loop-messages.messages)) + 1) + c.loop-messages.messages = omega (arith, few) in
    let taken = subst (λ m. g.K.Keeper.takes m c.args.keeper.now) left takes in
    let more = n + (999 - c.loop-messages.messages) in
    failed_in_turn g.K.Keeper.is_clean g.K.Keeper.is_guarded g.K.Keeper.is_open g.K.Keeper.faults c.args.keeper.now c.loop-messages.keeper c.turn.new.keeper
    (c.loop-messages.store_failed ≡ true) clean c.loop-messages.invariant.continues c.turn.ensures.continues
    (c.loop-messages.invariant.cause before d has (more + 1) taken fit)
    (c.in-Break.ensures.cause clean (left_by_all d told.3.0) told.3.4.0 more (c.loop-messages.invariant.ready before d has (more + 1) taken) fit yes)

pub returns-clause-cause : goal.returns-clause-cause
returns-clause-cause g c = λ clean d has n takes fit yes.
    let done : n + 1000 ≡ n + c.loop-messages.messages = omega arith in
    c.loop-messages.invariant.cause clean d has n (subst (λ m. g.K.Keeper.takes m c.args.keeper.now) done takes) fit yes
