use Rattle.std.proofs.Common.{◌≡◌, ◌+◌, ◌≤◌, length, map, drop, refl, sym, ap, subst, ◌∙◌, arith}
use Rattle.std.proofs.lemmas.List.{drop_all}
use Rattle.std.specs.FinMap.{insert}
use Rattle.sqlite.specs.Held.{state}
use Rattle.sqlite.proofs.StateLemmas.{survives_then}
use Rattle.sqlite.proofs.InsideLemmas.{keeps_then}
use Rattle.ee_store_tables.specs.Rows.{Sees}
use Rattle.ee_store_tables.specs.Statements.{IsExcused}
use Rattle.ee_store_tables.proofs.Lemmas.Transactions.{clean_before}
use Rattle.ee_store_schema.specs.Migrating.{answer_entry}
use Rattle.ee_store_schema.specs.Inner.Migrating.{copied, CanAddAll}
use Rattle.ee_store_schema.proofs.CopyLemmas.{next_answer, next_count, place_for_one}
use Rattle.ee_store_schema.proofs.MigrateLemmas.{survives_itself, same_place, same_room, passed_on, failure_then}
use Rattle.ee_store_schema.proofs.migrating.add_answers.Goals as goal

pub loop-answer-init : goal.loop-answer-init
loop-answer-init g c = (refl, survives_itself _, λ _. record { was_open = λ h. h; committed = λ _. refl }, λ _ h. h, λ _ h. h, λ _ rows sees. (rows.answers, sees, refl, λ h. h), λ _ _ n place. place, λ _ _ rows sees n room. room)

pub loop-answer-preserved : goal.loop-answer-preserved
loop-answer-preserved g c =
    let old = state g.S.Store c.args.tx.now.conn.now in
    let middle = state g.S.Store c.loop-answer.tx.conn.now in
    let new = state g.S.Store c.add_answer.new.tx.conn.now in
    let was = c.loop-answer.invariant in
    let before = clean_before middle new c.add_answer.ensures.crash in
    let all = c.args.answers.now in
    let i = c.loop-answer.answer-index in
    let next = next_answer all i c.answer-item.result c.loop-answer-test.true c.answer-item.is in
    let count = next_count all i c.answer-item.result c.loop-answer-test.true c.answer-item.is in
    let it = c.in_ok-add_answer.ensures in (
      c.add_answer.ensures.same_reference ∙ was.0,
      survives_then old middle new _ _ _ (λ _ db h. h) (λ _ db h. h) was.1 c.add_answer.ensures.crash,
      λ clean. keeps_then old middle new (was.2 (before clean)) (c.add_answer.ensures.commit clean),
      λ clean _. it.open clean,
      λ clean inside. it.inside clean (was.4 (before clean) inside),
      λ clean rows sees.
          let here = was.5 (before clean) rows sees in (
            insert here.0 (answer_entry c.answer-item.result).0 (answer_entry c.answer-item.result).1,
            it.added clean (record rows { answers = here.0 }) here.1,
            ap (copied here.0) (sym next) ∙ here.2,
            λ can. (subst (CanAddAll here.0) next (here.3 can)).1,
          ),
      λ clean inside n place. it.place clean (was.4 (before clean) inside) (n + length (drop (i + 1) all)) (same_place (n + length (drop i all)) ((n + length (drop (i + 1) all)) + 1) middle (omega (arith, count)) (was.6 (before clean) inside n place)),
      λ clean inside rows sees n room.
          let here = was.5 (before clean) rows sees in
          it.room clean (was.4 (before clean) inside) (record rows { answers = here.0 }) here.1 (n + length (drop (i + 1) all))
          (same_room (n + length (drop i all)) ((n + length (drop (i + 1) all)) + 1) middle (omega (arith, count)) (was.7 (before clean) inside rows sees n room)),
    )

pub returns-clause-added : goal.returns-clause-added
returns-clause-added g c clean rows sees =
    let now = state g.S.Store c.loop-answer.tx.conn.now in
    let here = c.loop-answer.invariant.5 clean rows sees in
    let all : here.0 ≡ copied rows.answers (map answer_entry c.args.answers.now)
    = ap (λ rest. copied here.0 (map answer_entry rest)) (sym (drop_all c.loop-answer.answer-index c.args.answers.now c.loop-answer-test.false)) ∙ here.2 in
    subst (λ answers. Sees now (record rows { answers = answers })) all here.1

pub returns-clause-place : goal.returns-clause-place
returns-clause-place g c clean inside n place =
    let now = state g.S.Store c.loop-answer.tx.conn.now in
    let none = ap length (drop_all c.loop-answer.answer-index c.args.answers.now c.loop-answer-test.false) in
    same_place (n + length (drop c.loop-answer.answer-index c.args.answers.now)) n now (omega (arith, none)) (c.loop-answer.invariant.6 clean inside n place)

pub returns-clause-room : goal.returns-clause-room
returns-clause-room g c clean inside rows sees n room =
    let now = state g.S.Store c.loop-answer.tx.conn.now in
    let none = ap length (drop_all c.loop-answer.answer-index c.args.answers.now c.loop-answer-test.false) in
    same_room (n + length (drop c.loop-answer.answer-index c.args.answers.now)) n now (omega (arith, none)) (c.loop-answer.invariant.7 clean inside rows sees n room)

pub returns-in_err-add_answer-clause-same_reference : goal.returns-in_err-add_answer-clause-same_reference
returns-in_err-add_answer-clause-same_reference g c = c.add_answer.ensures.same_reference ∙ c.loop-answer.invariant.0

pub returns-in_err-add_answer-clause-commit : goal.returns-in_err-add_answer-clause-commit
returns-in_err-add_answer-clause-commit g c clean =
    let old = state g.S.Store c.args.tx.now.conn.now in
    let middle = state g.S.Store c.loop-answer.tx.conn.now in
    let new = state g.S.Store c.add_answer.new.tx.conn.now in
    keeps_then old middle new (c.loop-answer.invariant.2 (clean_before middle new c.add_answer.ensures.crash clean)) (c.add_answer.ensures.commit clean)

pub returns-in_err-add_answer-clause-crash : goal.returns-in_err-add_answer-clause-crash
returns-in_err-add_answer-clause-crash g c =
    let old = state g.S.Store c.args.tx.now.conn.now in
    let middle = state g.S.Store c.loop-answer.tx.conn.now in
    let new = state g.S.Store c.add_answer.new.tx.conn.now in
    survives_then old middle new _ _ _ (λ _ db h. h) (λ _ db h. h) c.loop-answer.invariant.1 c.add_answer.ensures.crash

pub returns-in_err-add_answer-clause-cause : goal.returns-in_err-add_answer-clause-cause
returns-in_err-add_answer-clause-cause g c clean starts limit =
    let old = state g.S.Store c.args.tx.now.conn.now in
    let middle = state g.S.Store c.loop-answer.tx.conn.now in
    let new = state g.S.Store c.add_answer.new.tx.conn.now in
    let was = c.loop-answer.invariant in
    let before = clean_before middle new c.add_answer.ensures.crash clean in
    let all = c.args.answers.now in
    let i = c.loop-answer.answer-index in
    let next = next_answer all i c.answer-item.result c.loop-answer-test.true c.answer-item.is in
    let count = next_count all i c.answer-item.result c.loop-answer-test.true c.answer-item.is in
    let here = was.5 before starts.1 starts.2 in
    let can = (subst (CanAddAll here.0) next (here.3 starts.3)).0 in
    let place = was.6 before starts.0 0 (same_place (length all) (0 + length all) old (omega arith) starts.4) in
    let some : 1 ≤ 0 + length (drop i all) = omega (arith, count) in
    passed_on (IsExcused old new) c.from_residual.result c.in_err-add_answer.field-0.0 c.from_residual.ensures.1
    (failure_then old middle new was.1 c.add_answer.ensures.crash clean c.in_err-add_answer.field-0.0
    (c.in_err-add_answer.ensures.cause clean (was.4 before starts.0, record starts.1 { answers = here.0 }, here.1, can, λ is_open. let it = place is_open in (it.0, place_for_one (0 + length (drop i all)) (middle.now.trees 13) some it.1)) (was.1.limit ∙ limit)))
