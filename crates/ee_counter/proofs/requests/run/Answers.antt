use Rattle.std.proofs.Common.{◌≡◌, ◌+◌, add-zero, arith, rules, subst, sym, List, [], Result, length, take}
use Rattle.std.proofs.lemmas.Grind.{common_steps}
use Rattle.std.proofs.lemmas.List.{take_all}
use Rattle.std.specs.List.{AllByRecursion}
use Rattle.ee_desk_model.specs.declared.acts.Request.{Request}
use Rattle.ee_desk_model.specs.declared.replies.Reply.{Reply}
use Rattle.ee_desk_model.specs.declared.refusals.Unserved.{Unserved}
use Rattle.ee_keeper.specs.Keeping.{FailsOnlyIf}
use Rattle.ee_desk_model.specs.Contents.{content_after}
use Rattle.ee_desk_model.specs.Answers.{served}
use Rattle.ee_desk_laws.specs.Attempts.{LeadOn}
use Rattle.ee_desk_laws.proofs.Lemmas.{lead_nowhere}
use Rattle.ee_counter.specs.Served.{FitInTurn, attempts_at}
use Rattle.ee_counter.proofs.Runs.{all_more, one_more, lead_more}
use Rattle.ee_keeper.proofs.Lemmas.{continues_itself, continues_on}
use Rattle.ee_counter.proofs.Causes.{all_caused, fit_turn}
use Rattle.ee_counter.proofs.requests.run.Goals as goal

pub loop-request-preserved : goal.loop-request-preserved
loop-request-preserved g c =
    let i = c.loop-request.invariant in
    record {
      count = omega arith;
      room = search rules;
      failed = subst (AllByRecursion (FailsOnlyIf g.K.Keeper.may_fail)) (sym {A = List (Result Reply Unserved)} c.push_reserved.ensures.items)
          (all_more (FailsOnlyIf g.K.Keeper.may_fail) c.loop-request.answers.items c.deliver-answer.result i.failed c.deliver-answer.ensures.failed);
      continues = continues_on g.K.Keeper.is_clean g.K.Keeper.is_guarded g.K.Keeper.is_open g.K.Keeper.faults c.args.keeper.now c.loop-request.keeper c.deliver-answer.new.self
          i.continues c.deliver-answer.ensures.continues;
      told = λ clean S has.
          let before = i.told (c.deliver-answer.ensures.continues.clean clean) S has in
          one_more S c.args.requests.now c.loop-request.request-index c.request-item.result c.loop-request.answers.items c.push_reserved.new.self.items c.deliver-answer.result (g.K.Keeper.has c.deliver-answer.new.self)
          c.loop-request-test.true c.request-item.is c.push_reserved.ensures.items before.0
          (c.deliver-answer.ensures.delivers clean (content_after S (served (take c.loop-request.request-index c.args.requests.now) c.loop-request.answers.items)) before.1);
      goes = λ clean.
          lead_more (g.K.Keeper.went c.args.keeper.now) (g.K.Keeper.went c.loop-request.keeper) (g.K.Keeper.went c.deliver-answer.new.self)
          c.args.requests.now c.loop-request.request-index c.request-item.result c.loop-request.answers.items c.push_reserved.new.self.items c.deliver-answer.result
          c.loop-request-test.true (omega (arith, i.count)) c.request-item.is c.push_reserved.ensures.items (i.goes (c.deliver-answer.ensures.continues.clean clean)) (c.deliver-answer.ensures.goes clean);
      ready = λ clean S has n takes.
          let before = c.deliver-answer.ensures.continues.clean clean in
          let one_less : n + (c.loop-request.request-index + 1) ≡ (n + 1) + c.loop-request.request-index = omega arith in
          c.deliver-answer.ensures.ready clean (content_after S (served (take c.loop-request.request-index c.args.requests.now) c.loop-request.answers.items)) (i.told before S has).1 n
          (i.ready before S has (n + 1) (subst (λ m. g.K.Keeper.takes m c.args.keeper.now) one_less takes));
      cause = λ clean S has n takes fit.
          let before = c.deliver-answer.ensures.continues.clean clean in
          let one_less : n + (c.loop-request.request-index + 1) ≡ (n + 1) + c.loop-request.request-index = omega arith in
          let taken = subst (λ m. g.K.Keeper.takes m c.args.keeper.now) one_less takes in
          let fits = fit_turn g.K.Keeper.fits S c.args.requests.now c.loop-request.request-index c.request-item.result c.loop-request.answers.items c.push_reserved.new.self.items c.deliver-answer.result
          c.loop-request-test.true c.request-item.is c.push_reserved.ensures.items fit in
          all_caused (g.K.Keeper.faults c.args.keeper.now) (g.K.Keeper.faults c.loop-request.keeper) (g.K.Keeper.faults c.deliver-answer.new.self)
          (g.K.Keeper.is_open c.args.keeper.now) (g.K.Keeper.is_open c.loop-request.keeper) c.loop-request.answers.items c.push_reserved.new.self.items c.deliver-answer.result
          c.push_reserved.ensures.items (i.continues.shut before) (c.deliver-answer.ensures.continues.shut clean).0 (i.cause before S has (n + 1) taken fits.0)
          (c.deliver-answer.ensures.cause clean (content_after S (served (take c.loop-request.request-index c.args.requests.now) c.loop-request.answers.items)) (i.told before S has).1 n
          (i.ready before S has (n + 1) taken) fits.1);
    }

pub loop-request-init : goal.loop-request-init
loop-request-init g c = record {
  count = search rules;
  room = search rules;
  failed = search rules;
  continues = continues_itself g.K.Keeper.is_clean g.K.Keeper.is_guarded g.K.Keeper.is_open g.K.Keeper.faults c.args.keeper.now;
  told = search rules;
  goes = λ clean. lead_nowhere (g.K.Keeper.went c.args.keeper.now);
  ready = λ clean S has n takes. subst (λ m. g.K.Keeper.takes m c.args.keeper.now) (add-zero n) takes;
  cause = λ clean S has n takes fit. search rules;
}

pub returns-clause-answers : goal.returns-clause-answers
returns-clause-answers g c = grind (arith, common_steps)

pub returns-clause-cause : goal.returns-clause-cause
returns-clause-cause g c clean S has takes fit =
    let qs = c.args.requests.now in
    let at = c.loop-request.request-index in
    let done : length qs ≡ 0 + at = omega arith in
    c.loop-request.invariant.cause clean S has 0 (subst (λ m. g.K.Keeper.takes m c.args.keeper.now) done takes)
    (subst (λ (l : List Request). FitInTurn g.K.Keeper.fits S [] l c.loop-request.answers.items) (sym (take_all at qs (omega arith))) fit)

pub returns-clause-ready : goal.returns-clause-ready
returns-clause-ready g c clean S has n takes =
    let done : length c.args.requests.now ≡ c.loop-request.request-index = omega arith in
    c.loop-request.invariant.ready clean S has n (subst (λ m. g.K.Keeper.takes (n + m) c.args.keeper.now) done takes)

pub returns-clause-goes : goal.returns-clause-goes
returns-clause-goes g c clean =
    let qs = c.args.requests.now in
    let at = c.loop-request.request-index in
    subst (λ (l : List Request). LeadOn (g.K.Keeper.went c.args.keeper.now) (attempts_at l c.loop-request.answers.items) (g.K.Keeper.went c.loop-request.keeper))
    (take_all at qs (omega arith)) (c.loop-request.invariant.goes clean)

pub returns-clause-continues : goal.returns-clause-continues
returns-clause-continues g c = c.loop-request.invariant.continues

pub returns-clause-conserved : goal.returns-clause-conserved
returns-clause-conserved g c = grind (arith, common_steps)

pub returns-clause-content : goal.returns-clause-content
returns-clause-content g c = grind (arith, common_steps)

pub returns-clause-count : goal.returns-clause-count
returns-clause-count g c = search rules

pub returns-clause-err : goal.returns-clause-err
returns-clause-err g c = search rules

pub returns-clause-failed : goal.returns-clause-failed
returns-clause-failed g c = search rules

pub returns-clause-once : goal.returns-clause-once
returns-clause-once g c = grind (arith, common_steps)

pub returns-clause-right : goal.returns-clause-right
returns-clause-right g c = grind (arith, common_steps)

pub returns-clause-sound : goal.returns-clause-sound
returns-clause-sound g c = grind (arith, common_steps)

pub returns-in_err-answers-clause-answers : goal.returns-in_err-answers-clause-answers
returns-in_err-answers-clause-answers g c = search rules

pub returns-in_err-answers-clause-continues : goal.returns-in_err-answers-clause-continues
returns-in_err-answers-clause-continues g c = continues_itself g.K.Keeper.is_clean g.K.Keeper.is_guarded g.K.Keeper.is_open g.K.Keeper.faults c.args.keeper.now

pub returns-in_err-answers-clause-conserved : goal.returns-in_err-answers-clause-conserved
returns-in_err-answers-clause-conserved g c = search rules

pub returns-in_err-answers-clause-content : goal.returns-in_err-answers-clause-content
returns-in_err-answers-clause-content g c = search rules

pub returns-in_err-answers-clause-count : goal.returns-in_err-answers-clause-count
returns-in_err-answers-clause-count g c = search rules

pub returns-in_err-answers-clause-err : goal.returns-in_err-answers-clause-err
returns-in_err-answers-clause-err g c = search rules

pub returns-in_err-answers-clause-failed : goal.returns-in_err-answers-clause-failed
returns-in_err-answers-clause-failed g c = search rules

pub returns-in_err-answers-clause-once : goal.returns-in_err-answers-clause-once
returns-in_err-answers-clause-once g c = search rules

pub returns-in_err-answers-clause-right : goal.returns-in_err-answers-clause-right
returns-in_err-answers-clause-right g c = search rules

pub returns-in_err-answers-clause-sound : goal.returns-in_err-answers-clause-sound
returns-in_err-answers-clause-sound g c = search rules

pub returns-in_err-answers-clause-cause : goal.returns-in_err-answers-clause-cause
returns-in_err-answers-clause-cause g c = search rules

pub returns-in_err-answers-clause-ready : goal.returns-in_err-answers-clause-ready
returns-in_err-answers-clause-ready g c = search rules

pub returns-in_err-answers-clause-goes : goal.returns-in_err-answers-clause-goes
returns-in_err-answers-clause-goes g c = search rules
