use Rattle.std.proofs.Common.{◌≡◌, ◌++◌, ◌∙◌, ap, arith, sym, subst, rules, take, drop, inl}
use Rattle.std.specs.Io.KnownBytes.{Keeps, prepend_known}
use Rattle.ee_wire_framing.specs.Stream.{Stream}
use Rattle.ee_wire_framing.specs.Framing.{BeginsFault}
use Rattle.ee_wire_framing.specs.Reading.{left, NeedsMore, ShowsFault}
use Rattle.ee_wire_framing.specs.Inner.Reading.{EndsAt}
use Rattle.ee_wire_framing.proofs.Calls.{kept_fact, moved, answers_at, same_left, given_shown, none_read, read_more, read_kept, takes_held, takes_shown, settles_at}
use Rattle.ee_wire_framing.proofs.Messages.{more_needed}
use Rattle.ee_wire_framing.proofs.buffer.next_message.Goals as goal

pub returns-in-Fault-clause-answers : goal.returns-in-Fault-clause-answers
returns-in-Fault-clause-answers g c = λ _.
    kept_fact (λ b. BeginsFault b c.in-Fault.fault) (left c.args.buffer.now (g.R.Read.remaining c.args.reader.now)) (g.R.Read.remaining c.loop-message.reader)
    c.loop-message.buffer.held c.loop-message.invariant.kept c.in-Fault.ensures.front

pub returns-in-Ok-eq0-clause-answers : goal.returns-in-Ok-eq0-clause-answers
returns-in-Ok-eq0-clause-answers g c = λ _.
    let r = c.in-Ok-eq0.ensures.reads in
    let before : c.front.new.self.held ≡ c.loop-message.buffer.held = ap (λ (s : Stream). s.held) c.front.ensures.same in
    let held : c.read_more.new.self.held ≡ c.loop-message.buffer.held ++ r.0 = ap (λ (s : Stream). s.held) r.2 ∙ ap (λ l. l ++ r.0) before in
    let kept = moved (left c.args.buffer.now (g.R.Read.remaining c.args.reader.now)) (g.R.Read.remaining c.loop-message.reader) (g.R.Read.remaining c.read_more.new.reader) c.loop-message.buffer.held r.0 c.loop-message.invariant.kept r.3 in
    answers_at c.args.buffer.now c.at_end.new.self (g.R.Read.remaining c.args.reader.now) (g.R.Read.remaining c.read_more.new.reader) (c.loop-message.buffer.held ++ r.0) c.at_end.result
    kept (r.4 (search rules)) (subst (λ l. EndsAt l c.at_end.result) held c.at_end.ensures.ends)

pub returns-in-Err-Failed-clause-answers : goal.returns-in-Err-Failed-clause-answers
returns-in-Err-Failed-clause-answers g c = λ _.
    let r = c.in-Err-Failed.ensures.reads in
    let same : c.stop-in-Err-Failed.new.self.held ≡ c.loop-message.buffer.held =
    ap (λ (s : Stream). s.held) c.stop-in-Err-Failed.ensures ∙ ap (λ (s : Stream). s.held) r.0 ∙ ap (λ (s : Stream). s.held) c.front.ensures.same in (
      subst (λ h. Keeps (left c.args.buffer.now (g.R.Read.remaining c.args.reader.now)) (prepend_known h (g.R.Read.remaining c.read_more.new.reader))) (sym same)
          (same_left (left c.args.buffer.now (g.R.Read.remaining c.args.reader.now)) (g.R.Read.remaining c.loop-message.reader) (g.R.Read.remaining c.read_more.new.reader)
          c.loop-message.buffer.held c.loop-message.invariant.kept r.1),
      subst NeedsMore (sym same) (more_needed c.loop-message.buffer.held c.in-More.ensures.front),
    )

pub returns-in-Message-clause-answers : goal.returns-in-Message-clause-answers
returns-in-Message-clause-answers g c = λ _.
    let shown = ap (λ (s : Stream). s.shown) c.show.ensures in
    let held = ap (λ (s : Stream). s.held) c.show.ensures in
    given_shown c.in-Message.message c.in-Message.len (left c.args.buffer.now (g.R.Read.remaining c.args.reader.now)) (g.R.Read.remaining c.loop-message.reader)
    c.loop-message.buffer.held c.front.new.self.held c.show.new.self (sym (ap (λ (s : Stream). s.held) c.front.ensures.same)) shown held
    (subst (λ h. Keeps (left c.args.buffer.now (g.R.Read.remaining c.args.reader.now)) (prepend_known h (g.R.Read.remaining c.loop-message.reader)))
    (sym (ap (λ (s : Stream). s.held) c.front.ensures.same)) c.loop-message.invariant.kept)
    c.in-Message.ensures.front.1

pub at_end-requires : goal.at_end-requires
at_end-requires g c =
    let r = c.in-Ok-eq0.ensures.reads in
    none_read c.front.new.self.held r.0 c.read_more.new.self.held (r.1 ∙ c.in-Ok-eq0.field-0-test) (ap (λ (s : Stream). s.held) r.2)
    (subst NeedsMore (sym (ap (λ (s : Stream). s.held) c.front.ensures.same)) (more_needed c.loop-message.buffer.held c.in-More.ensures.front))

pub loop-message-preserved : goal.loop-message-preserved
loop-message-preserved g c =
    let r = c.in-Ok.ensures.reads in
    let before : c.front.new.self.held ≡ c.loop-message.buffer.held = ap (λ (s : Stream). s.held) c.front.ensures.same in
    let held : c.read_more.new.self.held ≡ c.loop-message.buffer.held ++ r.0 = ap (λ (s : Stream). s.held) r.2 ∙ ap (λ l. l ++ r.0) before in
    record {
      was_open = c.loop-message.invariant.was_open;
      is_open = ap (λ (s : Stream). s.ended) r.2 ∙ ap (λ (s : Stream). s.ended) c.front.ensures.same ∙ c.loop-message.invariant.is_open;
      shown = ap (λ (s : Stream). s.shown) r.2 ∙ ap (λ (s : Stream). s.shown) c.front.ensures.same ∙ c.loop-message.invariant.shown;
      kept = subst (λ h. Keeps (left c.args.buffer.now (g.R.Read.remaining c.args.reader.now)) (prepend_known h (g.R.Read.remaining c.read_more.new.reader))) (sym held)
          (moved (left c.args.buffer.now (g.R.Read.remaining c.args.reader.now)) (g.R.Read.remaining c.loop-message.reader) (g.R.Read.remaining c.read_more.new.reader)
          c.loop-message.buffer.held r.0 c.loop-message.invariant.kept r.3);
      took = read_more c.args.buffer.now.held c.loop-message.buffer.held c.read_more.new.self.held r.0 (g.R.Read.remaining c.args.reader.now) (g.R.Read.remaining c.loop-message.reader) (g.R.Read.remaining c.read_more.new.reader)
          c.loop-message.invariant.took r.3 held (more_needed c.loop-message.buffer.held c.in-More.ensures.front) (omega (arith, r.1, r.5));
      unread = λ not. absurd (not (subst NeedsMore (c.loop-message.invariant.unread not).1 (more_needed c.loop-message.buffer.held c.in-More.ensures.front)));
    }

pub returns-in-Err-NoMemory : goal.returns-in-Err-NoMemory
returns-in-Err-NoMemory g c =
    let r = c.in-Err-NoMemory.ensures.reads in
    let same : c.read_more.new.self ≡ c.loop-message.buffer = r.0 ∙ c.front.ensures.same in
    let held = ap (λ (s : Stream). s.held) same in
    let shown = ap (λ (s : Stream). s.shown) same ∙ c.loop-message.invariant.shown in
    let more = subst NeedsMore (sym held) (more_needed c.loop-message.buffer.held c.in-More.ensures.front) in
    record {
      answers = λ _. (
        subst (λ (s : Stream). Keeps (left c.args.buffer.now (g.R.Read.remaining c.args.reader.now)) (left s (g.R.Read.remaining c.read_more.new.reader))) (sym same)
            (same_left (left c.args.buffer.now (g.R.Read.remaining c.args.reader.now)) (g.R.Read.remaining c.loop-message.reader) (g.R.Read.remaining c.read_more.new.reader)
            c.loop-message.buffer.held c.loop-message.invariant.kept r.1),
        more,
      );
      takes = λ _. takes_held c.args.buffer.now c.read_more.new.self c.loop-message.buffer.held (g.R.Read.remaining c.args.reader.now) (g.R.Read.remaining c.read_more.new.reader)
          (read_kept c.args.buffer.now.held c.loop-message.buffer.held (g.R.Read.remaining c.args.reader.now) (g.R.Read.remaining c.loop-message.reader) (g.R.Read.remaining c.read_more.new.reader)
          c.loop-message.invariant.took r.1) shown held;
      settles = λ _. (shown, more);
      ended = λ _. ap (λ (s : Stream). s.ended) same ∙ c.loop-message.invariant.is_open;
      failed = λ _. search rules;
      unread = λ _ not. absurd (not (subst NeedsMore (c.loop-message.invariant.unread not).1 (more_needed c.loop-message.buffer.held c.in-More.ensures.front)));
      again = search rules;
    }

pub returns-in-Message-clause-takes : goal.returns-in-Message-clause-takes
returns-in-Message-clause-takes g c = λ _.
    let same = ap (λ (s : Stream). s.held) c.front.ensures.same in
    let shown = ap (λ (s : Stream). s.shown) c.show.ensures ∙ ap (take c.in-Message.len) same in
    let held = ap (λ (s : Stream). s.held) c.show.ensures ∙ ap (drop c.in-Message.len) same in
    takes_shown c.args.buffer.now c.show.new.self c.loop-message.buffer.held (g.R.Read.remaining c.args.reader.now) (g.R.Read.remaining c.loop-message.reader) c.in-Message.len
    c.loop-message.invariant.took shown held

pub returns-in-Fault-clause-takes : goal.returns-in-Fault-clause-takes
returns-in-Fault-clause-takes g c = λ _.
    let same = c.front.ensures.same in
    takes_held c.args.buffer.now c.stop.new.self c.loop-message.buffer.held (g.R.Read.remaining c.args.reader.now) (g.R.Read.remaining c.loop-message.reader) c.loop-message.invariant.took
    (ap (λ (s : Stream). s.shown) c.stop.ensures ∙ ap (λ (s : Stream). s.shown) same ∙ c.loop-message.invariant.shown)
    (ap (λ (s : Stream). s.held) c.stop.ensures ∙ ap (λ (s : Stream). s.held) same)

pub returns-in-Fault-clause-settles : goal.returns-in-Fault-clause-settles
returns-in-Fault-clause-settles g c = λ _.
    let same = c.front.ensures.same in
    let held = ap (λ (s : Stream). s.held) c.stop.ensures ∙ ap (λ (s : Stream). s.held) same in (
      ap (λ (s : Stream). s.shown) c.stop.ensures ∙ ap (λ (s : Stream). s.shown) same ∙ c.loop-message.invariant.shown,
      subst (λ h. ShowsFault h (g.R.Read.remaining c.loop-message.reader) c.in-Fault.fault) (sym held) (inl c.in-Fault.ensures.front),
    )

pub returns-in-Ok-eq0-clause-takes : goal.returns-in-Ok-eq0-clause-takes
returns-in-Ok-eq0-clause-takes g c = λ _.
    let r = c.in-Ok-eq0.ensures.reads in
    let same = c.front.ensures.same in
    let before : c.front.new.self.held ≡ c.loop-message.buffer.held = ap (λ (s : Stream). s.held) same in
    let held : c.read_more.new.self.held ≡ c.loop-message.buffer.held ++ r.0 = ap (λ (s : Stream). s.held) r.2 ∙ ap (λ l. l ++ r.0) before in
    takes_held c.args.buffer.now c.at_end.new.self c.read_more.new.self.held (g.R.Read.remaining c.args.reader.now) (g.R.Read.remaining c.read_more.new.reader)
    (read_more c.args.buffer.now.held c.loop-message.buffer.held c.read_more.new.self.held r.0 (g.R.Read.remaining c.args.reader.now) (g.R.Read.remaining c.loop-message.reader) (g.R.Read.remaining c.read_more.new.reader)
    c.loop-message.invariant.took r.3 held (more_needed c.loop-message.buffer.held c.in-More.ensures.front) (omega (arith, r.1, r.5)))
    (ap (λ (s : Stream). s.shown) c.at_end.ensures.same ∙ ap (λ (s : Stream). s.shown) r.2 ∙ ap (λ (s : Stream). s.shown) same ∙ c.loop-message.invariant.shown)
    (ap (λ (s : Stream). s.held) c.at_end.ensures.same)

pub returns-in-Ok-eq0-clause-settles : goal.returns-in-Ok-eq0-clause-settles
returns-in-Ok-eq0-clause-settles g c = λ _.
    let r = c.in-Ok-eq0.ensures.reads in
    settles_at c.at_end.new.self (g.R.Read.remaining c.read_more.new.reader) c.at_end.result
    (ap (λ (s : Stream). s.shown) c.at_end.ensures.same ∙ ap (λ (s : Stream). s.shown) r.2 ∙ ap (λ (s : Stream). s.shown) c.front.ensures.same ∙ c.loop-message.invariant.shown)
    (r.4 (search rules))
    (subst (λ h. EndsAt h c.at_end.result) (sym (ap (λ (s : Stream). s.held) c.at_end.ensures.same)) c.at_end.ensures.ends)

pub returns-in-Err-Failed-clause-takes : goal.returns-in-Err-Failed-clause-takes
returns-in-Err-Failed-clause-takes g c = λ _.
    let r = c.in-Err-Failed.ensures.reads in
    let same = c.stop-in-Err-Failed.ensures in
    let here : c.read_more.new.self ≡ c.loop-message.buffer = r.0 ∙ c.front.ensures.same in
    takes_held c.args.buffer.now c.stop-in-Err-Failed.new.self c.loop-message.buffer.held (g.R.Read.remaining c.args.reader.now) (g.R.Read.remaining c.read_more.new.reader)
    (read_kept c.args.buffer.now.held c.loop-message.buffer.held (g.R.Read.remaining c.args.reader.now) (g.R.Read.remaining c.loop-message.reader) (g.R.Read.remaining c.read_more.new.reader)
    c.loop-message.invariant.took r.1)
    (ap (λ (s : Stream). s.shown) same ∙ ap (λ (s : Stream). s.shown) here ∙ c.loop-message.invariant.shown)
    (ap (λ (s : Stream). s.held) same ∙ ap (λ (s : Stream). s.held) here)

pub returns-in-Err-Failed-clause-settles : goal.returns-in-Err-Failed-clause-settles
returns-in-Err-Failed-clause-settles g c = λ _.
    let same = c.stop-in-Err-Failed.ensures in
    let here : c.read_more.new.self ≡ c.loop-message.buffer = c.in-Err-Failed.ensures.reads.0 ∙ c.front.ensures.same in (
      ap (λ (s : Stream). s.shown) same ∙ ap (λ (s : Stream). s.shown) here ∙ c.loop-message.invariant.shown,
      subst NeedsMore (sym (ap (λ (s : Stream). s.held) same ∙ ap (λ (s : Stream). s.held) here)) (more_needed c.loop-message.buffer.held c.in-More.ensures.front),
    )

pub returns-in-Fault-clause-ended : goal.returns-in-Fault-clause-ended
returns-in-Fault-clause-ended g c = λ _. ap (λ (s : Stream). s.ended) c.stop.ensures

pub returns-in-Err-Failed-clause-failed : goal.returns-in-Err-Failed-clause-failed
returns-in-Err-Failed-clause-failed g c = λ _. search rules

pub returns-in-Ok-eq0-clause-failed : goal.returns-in-Ok-eq0-clause-failed
returns-in-Ok-eq0-clause-failed g c = λ _. search rules
