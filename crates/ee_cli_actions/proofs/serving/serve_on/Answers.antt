use Rattle.std.proofs.KnownBytes.{Appends-nil}
use Rattle.ee_desk_laws.proofs.Lemmas.{lead_nowhere}
use Rattle.std.proofs.Common.{◌≡◌, ◌∙◌, ◌+◌, ◌*◌, ◌++◌, ◌∷◌, [], ◌≤◌, length, arith, refl, subst, inl}
use Rattle.ee_keeper.specs.Keeping.{HasAfter}
use Rattle.ee_keeper.proofs.Lemmas.{continues_itself, continues_on, failed_after, takes_fewer}
use Rattle.std.proofs.lemmas.Result.{err_from_is_err_and}
use Rattle.ee_cli_actions.proofs.Connections.{breaks_before, broken_off, count_more, each_more, each_yet, failed_more, left_of, lines_failed, printed_more, until_more, until_none}
use Rattle.ee_cli_actions.proofs.serving.serve_on.Goals as goal

pub returns-in_err-ended-clause-serves : goal.returns-in_err-ended-clause-serves
returns-in_err-ended-clause-serves g c =
    let s = c.loop-connection.invariant.so_far in
    let few : length s.0 ≤ c.args.connections = omega (arith, s.1, c.loop-connection-test.true) in
    let p = err_from_is_err_and c.from_residual.result c.from_residual.ensures.1 in
    λ clean d has. record {
      ended = s.0;
      others = g.L.Listens.coming c.loop-connection.listener;
      each = each_yet (g.L.Listens.coming c.args.listener.now) (g.L.Listens.coming c.loop-connection.listener) d s.0 (g.K.Keeper.has c.loop-connection.keeper) (g.K.Keeper.has c.serve_next.new.keeper)
          (g.K.Keeper.went c.args.keeper.now) (g.K.Keeper.went c.loop-connection.keeper) (g.K.Keeper.went c.serve_next.new.keeper)
          (s.4 (c.serve_next.ensures.continues.clean clean) d has) (λ left x. (c.in_err-ended.ensures.serves clean left x).1);
      until = until_none s.0 s.2;
      printed = lines_failed c.args.connections _ _ s.0 c.from_residual.result p.0 c.in_err-ended.field-0.0 p.1 p.2 (inl c.in_err-ended.ensures.device) few (breaks_before _ _ s.0 s.2 s.3);
    }

pub returns-in_err-print_line-clause-serves : goal.returns-in_err-print_line-clause-serves
returns-in_err-print_line-clause-serves g c =
    let s = c.loop-connection.invariant.so_far in
    let e = c.in_ok-ended.ended in
    let count = count_more s.0 e c.loop-connection.connection s.1 in
    let few : length (s.0 ++ e ∷ []) ≤ c.args.connections = omega (arith, count, c.loop-connection-test.true) in
    let p = err_from_is_err_and c.from_residual-in_err-print_line.result c.from_residual-in_err-print_line.ensures.1 in
    λ clean d has. record {
      ended = s.0 ++ e ∷ [];
      others = g.L.Listens.coming c.serve_next.new.listener;
      each = each_more (g.L.Listens.coming c.args.listener.now) (g.L.Listens.coming c.loop-connection.listener) (g.L.Listens.coming c.serve_next.new.listener) d s.0 e (g.K.Keeper.has c.loop-connection.keeper) (g.K.Keeper.has c.serve_next.new.keeper)
          (g.K.Keeper.went c.args.keeper.now) (g.K.Keeper.went c.loop-connection.keeper) (g.K.Keeper.went c.serve_next.new.keeper)
          (s.4 (c.serve_next.ensures.continues.clean clean) d has) (c.in_ok-ended.ensures.serves clean);
      until = until_more s.0 e s.2;
      printed = lines_failed c.args.connections _ _ (s.0 ++ e ∷ []) c.from_residual-in_err-print_line.result p.0 c.in_err-print_line.field-0.0 p.1 p.2 c.in_err-print_line.ensures.fault few
          (broken_off _ _ _ s.0 e c.loop-connection.connection s.1 s.3 c.in_err-print_line.ensures.printed);
    }

pub returns-then-ended-clause-serves : goal.returns-then-ended-clause-serves
returns-then-ended-clause-serves g c =
    let s = c.loop-connection.invariant.so_far in
    let e = c.in_ok-ended.ended in
    let count = count_more s.0 e c.loop-connection.connection s.1 in
    let few : length (s.0 ++ e ∷ []) ≤ c.args.connections = omega (arith, count, c.loop-connection-test.true) in
    λ clean d has. record {
      ended = s.0 ++ e ∷ [];
      others = g.L.Listens.coming c.serve_next.new.listener;
      each = each_more (g.L.Listens.coming c.args.listener.now) (g.L.Listens.coming c.loop-connection.listener) (g.L.Listens.coming c.serve_next.new.listener) d s.0 e (g.K.Keeper.has c.loop-connection.keeper) (g.K.Keeper.has c.serve_next.new.keeper)
          (g.K.Keeper.went c.args.keeper.now) (g.K.Keeper.went c.loop-connection.keeper) (g.K.Keeper.went c.serve_next.new.keeper)
          (s.4 (c.serve_next.ensures.continues.clean clean) d has) (c.in_ok-ended.ensures.serves clean);
      until = until_more s.0 e s.2;
      printed = (refl, few, failed_more s.0 e s.2 ∙ c.if-ended.true, printed_more _ _ _ s.0 e c.loop-connection.connection s.1 s.3 c.in_ok-print_line.ensures.printed);
    }

pub loop-connection-preserved : goal.loop-connection-preserved
loop-connection-preserved g c =
    let i = c.loop-connection.invariant in
    let s = i.so_far in
    let e = c.in_ok-ended.ended in
    record {
      continues = continues_on g.K.Keeper.is_clean g.K.Keeper.is_guarded g.K.Keeper.is_open g.K.Keeper.faults c.args.keeper.now c.loop-connection.keeper c.serve_next.new.keeper
          i.continues c.serve_next.ensures.continues;
      ready = λ clean d has n takes.
          let before = c.serve_next.ensures.continues.clean clean in
          let less : n + (c.loop-connection.connection + 1) * 1000 ≡ (n + 1000) + c.loop-connection.connection * 1000 = omega arith in
          let held = i.held before d has in
          c.serve_next.ensures.ready clean held.0 held.1 n (i.ready before d has (n + 1000) (subst (λ m. g.K.Keeper.takes m c.args.keeper.now) less takes));
      held = λ clean d has.
          let held = i.held (c.serve_next.ensures.continues.clean clean) d has in
          let last = left_of (g.L.Listens.coming c.loop-connection.listener) (g.L.Listens.coming c.serve_next.new.listener) held.0 e (HasAfter (g.K.Keeper.has c.serve_next.new.keeper) (g.K.Keeper.went c.loop-connection.keeper) (g.K.Keeper.went c.serve_next.new.keeper)) (c.in_ok-ended.ensures.serves clean held.0 held.1) in
          (last.0, last.1.1.0);
      so_far = (
        s.0 ++ e ∷ [],
        count_more s.0 e c.loop-connection.connection s.1,
        failed_more s.0 e s.2 ∙ c.if-ended.false,
        printed_more _ _ _ s.0 e c.loop-connection.connection s.1 s.3 c.in_ok-print_line.ensures.printed,
        λ clean d has. each_more (g.L.Listens.coming c.args.listener.now) (g.L.Listens.coming c.loop-connection.listener) (g.L.Listens.coming c.serve_next.new.listener) d s.0 e (g.K.Keeper.has c.loop-connection.keeper) (g.K.Keeper.has c.serve_next.new.keeper)
            (g.K.Keeper.went c.args.keeper.now) (g.K.Keeper.went c.loop-connection.keeper) (g.K.Keeper.went c.serve_next.new.keeper)
            (s.4 (c.serve_next.ensures.continues.clean clean) d has) (c.in_ok-ended.ensures.serves clean),
      );
    }

pub returns-clause-serves : goal.returns-clause-serves
returns-clause-serves g c =
    let s = c.loop-connection.invariant.so_far in
    let all : length s.0 ≡ c.args.connections = omega (arith, s.1) in
    λ clean d has. record {
      ended = s.0;
      others = g.L.Listens.coming c.loop-connection.listener;
      each = s.4 clean d has;
      until = until_none s.0 s.2;
      printed = (refl, all, s.2, s.3);
    }

pub loop-connection-init : goal.loop-connection-init
loop-connection-init g c = record {
  continues = continues_itself g.K.Keeper.is_clean g.K.Keeper.is_guarded g.K.Keeper.is_open g.K.Keeper.faults c.args.keeper.now;
  ready = λ clean d has n takes. subst (λ m. g.K.Keeper.takes m c.args.keeper.now) (let none : n + 0 * 1000 ≡ n = omega arith in none) takes;
  held = λ clean d has. (d, has);
  so_far = ([], refl, refl, Appends-nil (g.W.Write.contents c.args.output.now), λ clean d has. (refl, (has, lead_nowhere (g.K.Keeper.went c.args.keeper.now))));
}

pub returns-in_err-ended-clause-continues : goal.returns-in_err-ended-clause-continues
returns-in_err-ended-clause-continues g c =
    continues_on g.K.Keeper.is_clean g.K.Keeper.is_guarded g.K.Keeper.is_open g.K.Keeper.faults c.args.keeper.now c.loop-connection.keeper c.serve_next.new.keeper
    c.loop-connection.invariant.continues c.serve_next.ensures.continues

pub returns-in_err-ended-clause-ready : goal.returns-in_err-ended-clause-ready
returns-in_err-ended-clause-ready g c = λ clean d has n takes.
    let i = c.loop-connection.invariant in
    let before = c.serve_next.ensures.continues.clean clean in
    let held = i.held before d has in
    c.serve_next.ensures.ready clean held.0 held.1 n
    (i.ready before d has (n + 1000) (takes_fewer g.K.Keeper.takes c.args.keeper.now (g.met.K.Keeper.fewer c.args.keeper.now) ((n + 1000) + c.loop-connection.connection * 1000) (n + c.args.connections * 1000)
    (omega (arith, c.loop-connection-test.true)) takes))

pub returns-in_err-print_line-clause-continues : goal.returns-in_err-print_line-clause-continues
returns-in_err-print_line-clause-continues g c =
    continues_on g.K.Keeper.is_clean g.K.Keeper.is_guarded g.K.Keeper.is_open g.K.Keeper.faults c.args.keeper.now c.loop-connection.keeper c.serve_next.new.keeper
    c.loop-connection.invariant.continues c.serve_next.ensures.continues

pub returns-in_err-print_line-clause-ready : goal.returns-in_err-print_line-clause-ready
returns-in_err-print_line-clause-ready g c = λ clean d has n takes.
    let i = c.loop-connection.invariant in
    let before = c.serve_next.ensures.continues.clean clean in
    let held = i.held before d has in
    c.serve_next.ensures.ready clean held.0 held.1 n
    (i.ready before d has (n + 1000) (takes_fewer g.K.Keeper.takes c.args.keeper.now (g.met.K.Keeper.fewer c.args.keeper.now) ((n + 1000) + c.loop-connection.connection * 1000) (n + c.args.connections * 1000)
    (omega (arith, c.loop-connection-test.true)) takes))

pub returns-then-ended-clause-continues : goal.returns-then-ended-clause-continues
returns-then-ended-clause-continues g c =
    continues_on g.K.Keeper.is_clean g.K.Keeper.is_guarded g.K.Keeper.is_open g.K.Keeper.faults c.args.keeper.now c.loop-connection.keeper c.serve_next.new.keeper
    c.loop-connection.invariant.continues c.serve_next.ensures.continues

pub returns-then-ended-clause-ready : goal.returns-then-ended-clause-ready
returns-then-ended-clause-ready g c = λ clean d has n takes.
    let i = c.loop-connection.invariant in
    let before = c.serve_next.ensures.continues.clean clean in
    let held = i.held before d has in
    c.serve_next.ensures.ready clean held.0 held.1 n
    (i.ready before d has (n + 1000) (takes_fewer g.K.Keeper.takes c.args.keeper.now (g.met.K.Keeper.fewer c.args.keeper.now) ((n + 1000) + c.loop-connection.connection * 1000) (n + c.args.connections * 1000)
    (omega (arith, c.loop-connection-test.true)) takes))

pub returns-clause-continues : goal.returns-clause-continues
returns-clause-continues g c = c.loop-connection.invariant.continues

pub returns-clause-ready : goal.returns-clause-ready
returns-clause-ready g c = λ clean d has n takes.
    let done : n + c.args.connections * 1000 ≡ n + c.loop-connection.connection * 1000 = omega arith in
    c.loop-connection.invariant.ready clean d has n (subst (λ m. g.K.Keeper.takes m c.args.keeper.now) done takes)

pub returns-then-ended-clause-cause : goal.returns-then-ended-clause-cause
returns-then-ended-clause-cause g c = λ clean d has n takes fit is.
    let i = c.loop-connection.invariant in
    let before = c.serve_next.ensures.continues.clean clean in
    let held = i.held before d has in
    failed_after g.K.Keeper.is_clean g.K.Keeper.is_guarded g.K.Keeper.is_open g.K.Keeper.faults c.args.keeper.now c.loop-connection.keeper c.serve_next.new.keeper clean
    i.continues c.serve_next.ensures.continues
    (c.in_ok-ended.ensures.cause clean held.0 held.1 n
    (i.ready before d has (n + 1000) (takes_fewer g.K.Keeper.takes c.args.keeper.now (g.met.K.Keeper.fewer c.args.keeper.now) ((n + 1000) + c.loop-connection.connection * 1000) (n + c.args.connections * 1000)
    (omega (arith, c.loop-connection-test.true)) takes)) fit c.if-ended.true)
