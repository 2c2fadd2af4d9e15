use Rattle.std.proofs.Common.{subst, not, ap, sym, ◌∙◌, OnErr, [], ◌∷◌, ◌+◌}
use Rattle.sqlite.specs.Held.{state}
use Rattle.sqlite.specs.State.{HasCleanDisk, Survives, State}
use Rattle.ee_desk_model.specs.Repeats.{Content}
use Rattle.ee_desk_model.specs.Contents.{content_after}
use Rattle.ee_desk_model.specs.Answers.{answer}
use Rattle.ee_desk_texts.specs.Given.{IsGiven}
use Rattle.ee_store_tables.proofs.Lemmas.Transactions.{clean_before, on_err_from, rolled_keeps, failed_keeps, commit_survives, still_others, committed_others}
use Rattle.ee_store_tables.proofs.Lemmas.Others.{same_others}
use Rattle.ee_store_books.specs.Seen.{StandsFor, HasContent}
use Rattle.ee_store_delivery.specs.Known.{AreKnown, IsInformed}
use Rattle.ee_store_delivery.proofs.NewNumbers.{known_stays}
use Rattle.ee_store_delivery.proofs.Informed.{excused_by_known, began_clean, known_in}
use Rattle.ee_store_books.proofs.Lemmas.Lookups.{inside_content, sees_content, still_content, committed_content, stands_when_open, excused_later, commit_excused, handed_on, excused}
use Rattle.ee_store_tables.specs.Failures.{failure_of}
use Rattle.ee_store_tables.specs.Statements.{IsExcused, LeavesOthers}
use Rattle.ee_store_books.specs.Causes.{IsReady}
use Rattle.ee_store_delivery.specs.Causes.{TakesRequestRoom, DeliversOrFails}
use Rattle.ee_store_delivery.proofs.RoomAfter.{begun_with, rolled_room, failed_room, ready_then, committed_with}
use Rattle.ee_store_delivery.proofs.delivery.deliver_on.Goals as goal

pub returns-in_err-is_new-clause-failed : goal.returns-in_err-is_new-clause-failed
returns-in_err-is_new-clause-failed g c =
    let old = state g.S.Store c.args.conn.now in
    let start = state g.S.Store c.transaction-tx.result.conn.now in
    let is = ap (state g.S.Store) c.transaction-tx.ensures.begun in
    let middle = state g.S.Store c.serve_in.new.tx.conn.now in
    let settled = c.is_autocommit.ensures.settled c.if-not-is_autocommit.false in
    let q = c.args.request.now in
    let new = state g.S.Store c.drop-tx.new.self.0 in
    let same = c.conn-1.given.1 (sym (c.in_err-is_new.ensures.same_reference ∙ c.transaction-tx.ensures.same_reference)) in
    subst (λ h. HasCleanDisk (state g.S.Store h) → OnErr c.from_residual.result ((S : Content) → HasContent old S → HasContent (state g.S.Store h) S)) (sym same) (λ clean.
    let before = clean_before middle new c.drop-tx.ensures.survives clean in
    on_err_from c.from_residual.result (λ S has. still_content old start is middle new S has (c.in_err-is_new.ensures.writes_inside.commit before (inside_content old start is settled S has))
    (rolled_keeps old start is middle new (c.drop-tx.ensures.undone clean))))

pub returns-then-not-is_new-clause-told : goal.returns-then-not-is_new-clause-told
returns-then-not-is_new-clause-told g c =
    let old = state g.S.Store c.args.conn.now in
    let start = state g.S.Store c.transaction-tx.result.conn.now in
    let is = ap (state g.S.Store) c.transaction-tx.ensures.begun in
    let middle = state g.S.Store c.serve_in.new.tx.conn.now in
    let settled = c.is_autocommit.ensures.settled c.if-not-is_autocommit.false in
    let q = c.args.request.now in
    let new = state g.S.Store c.drop-tx-then-not-is_new.new.self.0 in
    let same = c.conn-then-not-is_new-1.given.1 (sym (c.in_ok-is_new.ensures.same_reference ∙ c.transaction-tx.ensures.same_reference)) in
    subst (λ h. HasCleanDisk (state g.S.Store h) → IsInformed old c.args.known.now → (S : Content) → HasContent old S → IsGiven c.in_ok-is_new.reply (answer S [] q)) (sym same) (λ clean informed S has.
    let before = clean_before middle new c.drop-tx-then-not-is_new.ensures.survives clean in
    ((c.in_ok-is_new.ensures.serves before (inside_content old start is settled S has) S (sees_content old start is settled S has)).served (known_in old start is settled middle c.args.known.now c.replace-own.result c.replace-own.ensures.value c.serve_in.ensures.writes_inside.crash before (c.in_ok-is_new.ensures.writes_inside.commit before) (c.in_ok-is_new.ensures.writes_inside.still_open before) informed S has)).told)

pub returns-then-not-is_new-clause-kept : goal.returns-then-not-is_new-clause-kept
returns-then-not-is_new-clause-kept g c =
    let old = state g.S.Store c.args.conn.now in
    let start = state g.S.Store c.transaction-tx.result.conn.now in
    let is = ap (state g.S.Store) c.transaction-tx.ensures.begun in
    let middle = state g.S.Store c.serve_in.new.tx.conn.now in
    let settled = c.is_autocommit.ensures.settled c.if-not-is_autocommit.false in
    let q = c.args.request.now in
    let new = state g.S.Store c.drop-tx-then-not-is_new.new.self.0 in
    let same = c.conn-then-not-is_new-1.given.1 (sym (c.in_ok-is_new.ensures.same_reference ∙ c.transaction-tx.ensures.same_reference)) in
    subst (λ h. HasCleanDisk (state g.S.Store h) → IsInformed old c.args.known.now → (S : Content) → HasContent old S → HasContent (state g.S.Store h) (content_after S (q ∷ []))) (sym same) (λ clean informed S has.
    let before = clean_before middle new c.drop-tx-then-not-is_new.ensures.survives clean in
    let inside = inside_content old start is settled S has in
    subst (HasContent new) (known_stays S q c.in_ok-is_new.is_new c.if-not-is_new.true (c.in_ok-is_new.ensures.serves before (inside_content old start is settled S has) S (sees_content old start is settled S has)).first)
    (still_content old start is middle new S has (c.in_ok-is_new.ensures.writes_inside.commit before inside) (rolled_keeps old start is middle new (c.drop-tx-then-not-is_new.ensures.undone clean))))

pub returns-in_err-commit-clause-failed : goal.returns-in_err-commit-clause-failed
returns-in_err-commit-clause-failed g c =
    let old = state g.S.Store c.args.conn.now in
    let start = state g.S.Store c.transaction-tx.result.conn.now in
    let is = ap (state g.S.Store) c.transaction-tx.ensures.begun in
    let middle = state g.S.Store c.serve_in.new.tx.conn.now in
    let settled = c.is_autocommit.ensures.settled c.if-not-is_autocommit.false in
    let q = c.args.request.now in
    let new = state g.S.Store c.commit.new.self.0 in
    let same = c.conn-2-1.given.1 (sym (c.in_ok-is_new.ensures.same_reference ∙ c.transaction-tx.ensures.same_reference)) in
    subst (λ h. HasCleanDisk (state g.S.Store h) → OnErr c.from_residual-in_err-commit.result ((S : Content) → HasContent old S → HasContent (state g.S.Store h) S)) (sym same) (λ clean.
    let before = clean_before middle new c.in_err-commit.ensures.survives clean in
    on_err_from c.from_residual-in_err-commit.result (λ S has. still_content old start is middle new S has (c.in_ok-is_new.ensures.writes_inside.commit before (inside_content old start is settled S has))
    (failed_keeps old start is middle new _ (c.in_err-commit.ensures.err clean))))

pub returns-in_err-commit-clause-crash : goal.returns-in_err-commit-clause-crash
returns-in_err-commit-clause-crash g c =
    let old = state g.S.Store c.args.conn.now in
    let start = state g.S.Store c.transaction-tx.result.conn.now in
    let is = ap (state g.S.Store) c.transaction-tx.ensures.begun in
    let middle = state g.S.Store c.serve_in.new.tx.conn.now in
    let settled = c.is_autocommit.ensures.settled c.if-not-is_autocommit.false in
    let q = c.args.request.now in
    let new = state g.S.Store c.commit.new.self.0 in
    let same = c.conn-2-1.given.1 (sym (c.in_ok-is_new.ensures.same_reference ∙ c.transaction-tx.ensures.same_reference)) in
    subst (λ h. Survives old (state g.S.Store h) (λ db. IsInformed old c.args.known.now → (S : Content) → HasContent old S → StandsFor db (content_after S (q ∷ [])))) (sym same)
    (commit_survives old start is middle new (λ db. IsInformed old c.args.known.now → (S : Content) → HasContent old S → StandsFor db (content_after S (q ∷ [])))
    (λ before informed S has. let inside = inside_content old start is settled S has in let is_open = c.in_ok-is_new.ensures.writes_inside.still_open before in
    stands_when_open middle (content_after S (q ∷ [])) ((c.in_ok-is_new.ensures.serves before inside S (sees_content old start is settled S has)).served (known_in old start is settled middle c.args.known.now c.replace-own.result c.replace-own.ensures.value c.serve_in.ensures.writes_inside.crash before (c.in_ok-is_new.ensures.writes_inside.commit before) (c.in_ok-is_new.ensures.writes_inside.still_open before) informed S has)).seen is_open (c.in_ok-is_new.ensures.sound before inside c.if-not-is_new.false is_open))
    c.in_ok-is_new.ensures.writes_inside.crash c.in_err-commit.ensures.survives)

pub returns-clause-kept : goal.returns-clause-kept
returns-clause-kept g c =
    let old = state g.S.Store c.args.conn.now in
    let start = state g.S.Store c.transaction-tx.result.conn.now in
    let is = ap (state g.S.Store) c.transaction-tx.ensures.begun in
    let middle = state g.S.Store c.serve_in.new.tx.conn.now in
    let settled = c.is_autocommit.ensures.settled c.if-not-is_autocommit.false in
    let q = c.args.request.now in
    let new = state g.S.Store c.commit.new.self.0 in
    let same = c.conn-2-1.given.1 (sym (c.in_ok-is_new.ensures.same_reference ∙ c.transaction-tx.ensures.same_reference)) in
    subst (λ h. HasCleanDisk (state g.S.Store h) → IsInformed old c.args.known.now → (S : Content) → HasContent old S → HasContent (state g.S.Store h) (content_after S (q ∷ []))) (sym same) (λ clean informed S has.
    let before = clean_before middle new c.in_ok-commit.ensures.survives clean in
    committed_content old start is middle new (content_after S (q ∷ [])) ((c.in_ok-is_new.ensures.serves before (inside_content old start is settled S has) S (sees_content old start is settled S has)).served (known_in old start is settled middle c.args.known.now c.replace-own.result c.replace-own.ensures.value c.serve_in.ensures.writes_inside.crash before (c.in_ok-is_new.ensures.writes_inside.commit before) (c.in_ok-is_new.ensures.writes_inside.still_open before) informed S has)).seen (c.in_ok-commit.ensures.ok clean).1)

pub returns-clause-crash : goal.returns-clause-crash
returns-clause-crash g c =
    let old = state g.S.Store c.args.conn.now in
    let start = state g.S.Store c.transaction-tx.result.conn.now in
    let is = ap (state g.S.Store) c.transaction-tx.ensures.begun in
    let middle = state g.S.Store c.serve_in.new.tx.conn.now in
    let settled = c.is_autocommit.ensures.settled c.if-not-is_autocommit.false in
    let q = c.args.request.now in
    let new = state g.S.Store c.commit.new.self.0 in
    let same = c.conn-2-1.given.1 (sym (c.in_ok-is_new.ensures.same_reference ∙ c.transaction-tx.ensures.same_reference)) in
    subst (λ h. Survives old (state g.S.Store h) (λ db. IsInformed old c.args.known.now → (S : Content) → HasContent old S → StandsFor db (content_after S (q ∷ [])))) (sym same)
    (commit_survives old start is middle new (λ db. IsInformed old c.args.known.now → (S : Content) → HasContent old S → StandsFor db (content_after S (q ∷ [])))
    (λ before informed S has. let inside = inside_content old start is settled S has in let is_open = c.in_ok-is_new.ensures.writes_inside.still_open before in
    stands_when_open middle (content_after S (q ∷ [])) ((c.in_ok-is_new.ensures.serves before inside S (sees_content old start is settled S has)).served (known_in old start is settled middle c.args.known.now c.replace-own.result c.replace-own.ensures.value c.serve_in.ensures.writes_inside.crash before (c.in_ok-is_new.ensures.writes_inside.commit before) (c.in_ok-is_new.ensures.writes_inside.still_open before) informed S has)).seen is_open (c.in_ok-is_new.ensures.sound before inside c.if-not-is_new.false is_open))
    c.in_ok-is_new.ensures.writes_inside.crash c.in_ok-commit.ensures.survives)

pub returns-in_err-is_new-clause-ready : goal.returns-in_err-is_new-clause-ready
returns-in_err-is_new-clause-ready g c =
    let old = state g.S.Store c.args.conn.now in
    let start = state g.S.Store c.transaction-tx.result.conn.now in
    let is = ap (state g.S.Store) c.transaction-tx.ensures.begun in
    let middle = state g.S.Store c.serve_in.new.tx.conn.now in
    let settled = c.is_autocommit.ensures.settled c.if-not-is_autocommit.false in
    let new = state g.S.Store c.drop-tx.new.self.0 in
    let same = c.conn-1.given.1 (sym (c.in_err-is_new.ensures.same_reference ∙ c.transaction-tx.ensures.same_reference)) in
    subst (λ h. IsReady old → IsReady (state g.S.Store h)) (sym same)
    (ready_then old start is middle new c.drop-tx.ensures.ended c.drop-tx.ensures.survives.limit c.serve_in.ensures.writes_inside.crash.limit)

pub returns-in_err-is_new-clause-room : goal.returns-in_err-is_new-clause-room
returns-in_err-is_new-clause-room g c =
    let old = state g.S.Store c.args.conn.now in
    let start = state g.S.Store c.transaction-tx.result.conn.now in
    let is = ap (state g.S.Store) c.transaction-tx.ensures.begun in
    let middle = state g.S.Store c.serve_in.new.tx.conn.now in
    let settled = c.is_autocommit.ensures.settled c.if-not-is_autocommit.false in
    let new = state g.S.Store c.drop-tx.new.self.0 in
    let same = c.conn-1.given.1 (sym (c.in_err-is_new.ensures.same_reference ∙ c.transaction-tx.ensures.same_reference)) in
    subst (λ h. TakesRequestRoom old (state g.S.Store h)) (sym same) (λ clean ready S has n room.
    let before = clean_before middle new c.drop-tx.ensures.survives clean in
    rolled_room old start is settled middle new (c.in_err-is_new.ensures.writes_inside.commit before (inside_content old start is settled S has)) (c.drop-tx.ensures.undone clean) n room)

pub returns-then-not-is_new-clause-ready : goal.returns-then-not-is_new-clause-ready
returns-then-not-is_new-clause-ready g c =
    let old = state g.S.Store c.args.conn.now in
    let start = state g.S.Store c.transaction-tx.result.conn.now in
    let is = ap (state g.S.Store) c.transaction-tx.ensures.begun in
    let middle = state g.S.Store c.serve_in.new.tx.conn.now in
    let settled = c.is_autocommit.ensures.settled c.if-not-is_autocommit.false in
    let new = state g.S.Store c.drop-tx-then-not-is_new.new.self.0 in
    let same = c.conn-then-not-is_new-1.given.1 (sym (c.in_ok-is_new.ensures.same_reference ∙ c.transaction-tx.ensures.same_reference)) in
    subst (λ h. IsReady old → IsReady (state g.S.Store h)) (sym same)
    (ready_then old start is middle new c.drop-tx-then-not-is_new.ensures.ended c.drop-tx-then-not-is_new.ensures.survives.limit c.serve_in.ensures.writes_inside.crash.limit)

pub returns-then-not-is_new-clause-room : goal.returns-then-not-is_new-clause-room
returns-then-not-is_new-clause-room g c =
    let old = state g.S.Store c.args.conn.now in
    let start = state g.S.Store c.transaction-tx.result.conn.now in
    let is = ap (state g.S.Store) c.transaction-tx.ensures.begun in
    let middle = state g.S.Store c.serve_in.new.tx.conn.now in
    let settled = c.is_autocommit.ensures.settled c.if-not-is_autocommit.false in
    let new = state g.S.Store c.drop-tx-then-not-is_new.new.self.0 in
    let same = c.conn-then-not-is_new-1.given.1 (sym (c.in_ok-is_new.ensures.same_reference ∙ c.transaction-tx.ensures.same_reference)) in
    subst (λ h. TakesRequestRoom old (state g.S.Store h)) (sym same) (λ clean ready S has n room.
    let before = clean_before middle new c.drop-tx-then-not-is_new.ensures.survives clean in
    rolled_room old start is settled middle new (c.in_ok-is_new.ensures.writes_inside.commit before (inside_content old start is settled S has)) (c.drop-tx-then-not-is_new.ensures.undone clean) n room)

pub returns-in_err-commit-clause-ready : goal.returns-in_err-commit-clause-ready
returns-in_err-commit-clause-ready g c =
    let old = state g.S.Store c.args.conn.now in
    let start = state g.S.Store c.transaction-tx.result.conn.now in
    let is = ap (state g.S.Store) c.transaction-tx.ensures.begun in
    let middle = state g.S.Store c.serve_in.new.tx.conn.now in
    let settled = c.is_autocommit.ensures.settled c.if-not-is_autocommit.false in
    let new = state g.S.Store c.commit.new.self.0 in
    let same = c.conn-2-1.given.1 (sym (c.in_ok-is_new.ensures.same_reference ∙ c.transaction-tx.ensures.same_reference)) in
    subst (λ h. IsReady old → IsReady (state g.S.Store h)) (sym same)
    (ready_then old start is middle new c.in_err-commit.ensures.ended c.in_err-commit.ensures.survives.limit c.serve_in.ensures.writes_inside.crash.limit)

pub returns-in_err-commit-clause-room : goal.returns-in_err-commit-clause-room
returns-in_err-commit-clause-room g c =
    let old = state g.S.Store c.args.conn.now in
    let start = state g.S.Store c.transaction-tx.result.conn.now in
    let is = ap (state g.S.Store) c.transaction-tx.ensures.begun in
    let middle = state g.S.Store c.serve_in.new.tx.conn.now in
    let settled = c.is_autocommit.ensures.settled c.if-not-is_autocommit.false in
    let new = state g.S.Store c.commit.new.self.0 in
    let same = c.conn-2-1.given.1 (sym (c.in_ok-is_new.ensures.same_reference ∙ c.transaction-tx.ensures.same_reference)) in
    subst (λ h. TakesRequestRoom old (state g.S.Store h)) (sym same) (λ clean ready S has n room.
    let before = clean_before middle new c.in_err-commit.ensures.survives clean in
    let inside = inside_content old start is settled S has in
    failed_room old start is settled middle new (c.in_ok-is_new.ensures.writes_inside.inside before inside) (c.in_ok-is_new.ensures.writes_inside.commit before inside) _ (c.in_err-commit.ensures.err clean) n room)

pub returns-clause-ready : goal.returns-clause-ready
returns-clause-ready g c =
    let old = state g.S.Store c.args.conn.now in
    let start = state g.S.Store c.transaction-tx.result.conn.now in
    let is = ap (state g.S.Store) c.transaction-tx.ensures.begun in
    let middle = state g.S.Store c.serve_in.new.tx.conn.now in
    let settled = c.is_autocommit.ensures.settled c.if-not-is_autocommit.false in
    let new = state g.S.Store c.commit.new.self.0 in
    let same = c.conn-2-1.given.1 (sym (c.in_ok-is_new.ensures.same_reference ∙ c.transaction-tx.ensures.same_reference)) in
    subst (λ h. IsReady old → IsReady (state g.S.Store h)) (sym same)
    (ready_then old start is middle new c.in_ok-commit.ensures.ended c.in_ok-commit.ensures.survives.limit c.serve_in.ensures.writes_inside.crash.limit)

pub returns-clause-room : goal.returns-clause-room
returns-clause-room g c =
    let old = state g.S.Store c.args.conn.now in
    let start = state g.S.Store c.transaction-tx.result.conn.now in
    let is = ap (state g.S.Store) c.transaction-tx.ensures.begun in
    let middle = state g.S.Store c.serve_in.new.tx.conn.now in
    let settled = c.is_autocommit.ensures.settled c.if-not-is_autocommit.false in
    let new = state g.S.Store c.commit.new.self.0 in
    let same = c.conn-2-1.given.1 (sym (c.in_ok-is_new.ensures.same_reference ∙ c.transaction-tx.ensures.same_reference)) in
    subst (λ h. TakesRequestRoom old (state g.S.Store h)) (sym same) (λ clean ready S has n room.
    let before = clean_before middle new c.in_ok-commit.ensures.survives clean in
    committed_with middle new n (c.in_ok-commit.ensures.ok clean).1
    (c.in_ok-is_new.ensures.room before (inside_content old start is settled S has) S (sees_content old start is settled S has) n (begun_with old start is (501 + n) room)))

pub returns-in_err-is_new-clause-cause : goal.returns-in_err-is_new-clause-cause
returns-in_err-is_new-clause-cause g c =
    let old = state g.S.Store c.args.conn.now in
    let start = state g.S.Store c.transaction-tx.result.conn.now in
    let is = ap (state g.S.Store) c.transaction-tx.ensures.begun in
    let middle = state g.S.Store c.serve_in.new.tx.conn.now in
    let settled = c.is_autocommit.ensures.settled c.if-not-is_autocommit.false in
    let new = state g.S.Store c.drop-tx.new.self.0 in
    let same = c.conn-1.given.1 (sym (c.in_err-is_new.ensures.same_reference ∙ c.transaction-tx.ensures.same_reference)) in
    subst (λ h. DeliversOrFails old (state g.S.Store h) c.args.known.now c.args.request.now c.from_residual.result) (sym same) (λ clean informed S can.
    let before = clean_before middle new c.drop-tx.ensures.survives clean in
    let has = can.1 in
    handed_on _ c.from_residual.result c.in_err-is_new.field-0.0 c.from_residual.ensures.1
    (excused_by_known old new c.args.known.now S _ (began_clean old start is middle c.serve_in.ensures.writes_inside.crash before) informed has (λ known.
    excused old start is middle new c.serve_in.ensures.writes_inside.crash c.drop-tx.ensures.survives _
    (c.in_err-is_new.ensures.cause before (inside_content old start is settled S has) (ap (λ (s : State). s.step_limit) is ∙ can.0.1) S (sees_content old start is settled S has) (subst (λ k. AreKnown k S.books) (sym c.replace-own.ensures.value) known, can.2, begun_with old start is 501 can.3)))))

pub returns-in_err-commit-clause-cause : goal.returns-in_err-commit-clause-cause
returns-in_err-commit-clause-cause g c =
    let old = state g.S.Store c.args.conn.now in
    let start = state g.S.Store c.transaction-tx.result.conn.now in
    let is = ap (state g.S.Store) c.transaction-tx.ensures.begun in
    let middle = state g.S.Store c.serve_in.new.tx.conn.now in
    let settled = c.is_autocommit.ensures.settled c.if-not-is_autocommit.false in
    let new = state g.S.Store c.commit.new.self.0 in
    let same = c.conn-2-1.given.1 (sym (c.in_ok-is_new.ensures.same_reference ∙ c.transaction-tx.ensures.same_reference)) in
    subst (λ h. DeliversOrFails old (state g.S.Store h) c.args.known.now c.args.request.now c.from_residual-in_err-commit.result) (sym same) (λ clean informed S can.
    let before = clean_before middle new c.in_err-commit.ensures.survives clean in
    let inside = c.in_ok-is_new.ensures.writes_inside.inside before (inside_content old start is settled S can.1) in
    handed_on _ c.from_residual-in_err-commit.result (failure_of c.in_err-commit.field-0.0) c.from_residual-in_err-commit.ensures.1
    (subst (λ s. IsExcused s new (failure_of c.in_err-commit.field-0.0)) is
    (excused_later start middle new clean c.serve_in.ensures.writes_inside.crash c.in_err-commit.ensures.survives _ (commit_excused middle new inside c.in_err-commit.field-0.0 (c.in_err-commit.ensures.err clean)))))

pub returns-clause-told : goal.returns-clause-told
returns-clause-told g c =
    let old = state g.S.Store c.args.conn.now in
    let start = state g.S.Store c.transaction-tx.result.conn.now in
    let is = ap (state g.S.Store) c.transaction-tx.ensures.begun in
    let middle = state g.S.Store c.serve_in.new.tx.conn.now in
    let settled = c.is_autocommit.ensures.settled c.if-not-is_autocommit.false in
    let q = c.args.request.now in
    let new = state g.S.Store c.commit.new.self.0 in
    let same = c.conn-2-1.given.1 (sym (c.in_ok-is_new.ensures.same_reference ∙ c.transaction-tx.ensures.same_reference)) in
    subst (λ h. HasCleanDisk (state g.S.Store h) → IsInformed old c.args.known.now → (S : Content) → HasContent old S → IsGiven c.in_ok-is_new.reply (answer S [] q)) (sym same) (λ clean informed S has.
    let before = clean_before middle new c.in_ok-commit.ensures.survives clean in
    ((c.in_ok-is_new.ensures.serves before (inside_content old start is settled S has) S (sees_content old start is settled S has)).served (known_in old start is settled middle c.args.known.now c.replace-own.result c.replace-own.ensures.value c.serve_in.ensures.writes_inside.crash before (c.in_ok-is_new.ensures.writes_inside.commit before) (c.in_ok-is_new.ensures.writes_inside.still_open before) informed S has)).told)

pub returns-in_err-is_new-clause-informed : goal.returns-in_err-is_new-clause-informed
returns-in_err-is_new-clause-informed g c =
    let old = state g.S.Store c.args.conn.now in
    let start = state g.S.Store c.transaction-tx.result.conn.now in
    let is = ap (state g.S.Store) c.transaction-tx.ensures.begun in
    let middle = state g.S.Store c.serve_in.new.tx.conn.now in
    let settled = c.is_autocommit.ensures.settled c.if-not-is_autocommit.false in
    let new = state g.S.Store c.drop-tx.new.self.0 in
    let same = c.conn-1.given.1 (sym (c.in_err-is_new.ensures.same_reference ∙ c.transaction-tx.ensures.same_reference)) in
    subst (λ h. IsInformed old c.args.known.now → IsInformed (state g.S.Store h) c.replace-own.new.dest) (sym same) (λ informed clean.
    let before = clean_before middle new c.drop-tx.ensures.survives clean in
    let it = informed (began_clean old start is middle c.serve_in.ensures.writes_inside.crash before) in
    let inside = inside_content old start is settled it.0 it.1 in (
      it.0,
      still_content old start is middle new it.0 it.1 (c.in_err-is_new.ensures.writes_inside.commit before inside) (rolled_keeps old start is middle new (c.drop-tx.ensures.undone clean)),
      subst (λ known. AreKnown known it.0.books) (sym c.replace-own.ensures.after) (c.nothing.ensures it.0.books),
    ))

pub returns-in_err-commit-clause-informed : goal.returns-in_err-commit-clause-informed
returns-in_err-commit-clause-informed g c =
    let old = state g.S.Store c.args.conn.now in
    let start = state g.S.Store c.transaction-tx.result.conn.now in
    let is = ap (state g.S.Store) c.transaction-tx.ensures.begun in
    let middle = state g.S.Store c.serve_in.new.tx.conn.now in
    let settled = c.is_autocommit.ensures.settled c.if-not-is_autocommit.false in
    let new = state g.S.Store c.commit.new.self.0 in
    let same = c.conn-2-1.given.1 (sym (c.in_ok-is_new.ensures.same_reference ∙ c.transaction-tx.ensures.same_reference)) in
    subst (λ h. IsInformed old c.args.known.now → IsInformed (state g.S.Store h) c.replace-own.new.dest) (sym same) (λ informed clean.
    let before = clean_before middle new c.in_err-commit.ensures.survives clean in
    let it = informed (began_clean old start is middle c.serve_in.ensures.writes_inside.crash before) in
    let inside = inside_content old start is settled it.0 it.1 in (
      it.0,
      still_content old start is middle new it.0 it.1 (c.in_ok-is_new.ensures.writes_inside.commit before inside) (failed_keeps old start is middle new _ (c.in_err-commit.ensures.err clean)),
      subst (λ known. AreKnown known it.0.books) (sym c.replace-own.ensures.after) (c.nothing.ensures it.0.books),
    ))

pub returns-then-not-is_new-clause-informed : goal.returns-then-not-is_new-clause-informed
returns-then-not-is_new-clause-informed g c =
    let old = state g.S.Store c.args.conn.now in
    let start = state g.S.Store c.transaction-tx.result.conn.now in
    let is = ap (state g.S.Store) c.transaction-tx.ensures.begun in
    let middle = state g.S.Store c.serve_in.new.tx.conn.now in
    let settled = c.is_autocommit.ensures.settled c.if-not-is_autocommit.false in
    let new = state g.S.Store c.drop-tx-then-not-is_new.new.self.0 in
    let q = c.args.request.now in
    let same = c.conn-then-not-is_new-1.given.1 (sym (c.in_ok-is_new.ensures.same_reference ∙ c.transaction-tx.ensures.same_reference)) in
    let middle_clean = subst (λ h. HasCleanDisk (state g.S.Store h) → HasCleanDisk middle) (sym same) (clean_before middle new c.drop-tx-then-not-is_new.ensures.survives) in
    λ informed clean.
    let before = middle_clean clean in
    let it = informed (began_clean old start is middle c.serve_in.ensures.writes_inside.crash before) in
    let own = subst (λ known. AreKnown known it.0.books) (sym c.replace-own.ensures.value) it.2 in (
      content_after it.0 (q ∷ []),
      returns-then-not-is_new-clause-kept g c clean informed it.0 it.1,
      c.in_ok-is_new.ensures.learns before (inside_content old start is settled it.0 it.1) it.0 (sees_content old start is settled it.0 it.1) own,
    )

pub returns-clause-informed : goal.returns-clause-informed
returns-clause-informed g c =
    let old = state g.S.Store c.args.conn.now in
    let start = state g.S.Store c.transaction-tx.result.conn.now in
    let is = ap (state g.S.Store) c.transaction-tx.ensures.begun in
    let middle = state g.S.Store c.serve_in.new.tx.conn.now in
    let settled = c.is_autocommit.ensures.settled c.if-not-is_autocommit.false in
    let new = state g.S.Store c.commit.new.self.0 in
    let q = c.args.request.now in
    let same = c.conn-2-1.given.1 (sym (c.in_ok-is_new.ensures.same_reference ∙ c.transaction-tx.ensures.same_reference)) in
    let middle_clean = subst (λ h. HasCleanDisk (state g.S.Store h) → HasCleanDisk middle) (sym same) (clean_before middle new c.in_ok-commit.ensures.survives) in
    λ informed clean.
    let before = middle_clean clean in
    let it = informed (began_clean old start is middle c.serve_in.ensures.writes_inside.crash before) in
    let own = subst (λ known. AreKnown known it.0.books) (sym c.replace-own.ensures.value) it.2 in (
      content_after it.0 (q ∷ []),
      returns-clause-kept g c clean informed it.0 it.1,
      c.in_ok-is_new.ensures.learns before (inside_content old start is settled it.0 it.1) it.0 (sees_content old start is settled it.0 it.1) own,
    )

-- ---- tables of others

pub returns-then-not-is_autocommit-clause-others : goal.returns-then-not-is_autocommit-clause-others
returns-then-not-is_autocommit-clause-others g c clean S has = same_others (state g.S.Store c.args.conn.now)

pub returns-in_err-is_new-clause-others : goal.returns-in_err-is_new-clause-others
returns-in_err-is_new-clause-others g c =
    let old = state g.S.Store c.args.conn.now in
    let start = state g.S.Store c.transaction-tx.result.conn.now in
    let is = ap (state g.S.Store) c.transaction-tx.ensures.begun in
    let middle = state g.S.Store c.serve_in.new.tx.conn.now in
    let settled = c.is_autocommit.ensures.settled c.if-not-is_autocommit.false in
    let new = state g.S.Store c.drop-tx.new.self.0 in
    let same = c.conn-1.given.1 (sym (c.in_err-is_new.ensures.same_reference ∙ c.transaction-tx.ensures.same_reference)) in
    subst (λ h. HasCleanDisk (state g.S.Store h) → (S : Content) → HasContent old S → LeavesOthers old (state g.S.Store h)) (sym same) (λ clean S has.
    let before = clean_before middle new c.drop-tx.ensures.survives clean in
    still_others old start is middle new (c.in_err-is_new.ensures.writes_inside.commit before (inside_content old start is settled S has)) (rolled_keeps old start is middle new (c.drop-tx.ensures.undone clean)))

pub returns-then-not-is_new-clause-others : goal.returns-then-not-is_new-clause-others
returns-then-not-is_new-clause-others g c =
    let old = state g.S.Store c.args.conn.now in
    let start = state g.S.Store c.transaction-tx.result.conn.now in
    let is = ap (state g.S.Store) c.transaction-tx.ensures.begun in
    let middle = state g.S.Store c.serve_in.new.tx.conn.now in
    let settled = c.is_autocommit.ensures.settled c.if-not-is_autocommit.false in
    let new = state g.S.Store c.drop-tx-then-not-is_new.new.self.0 in
    let same = c.conn-then-not-is_new-1.given.1 (sym (c.in_ok-is_new.ensures.same_reference ∙ c.transaction-tx.ensures.same_reference)) in
    subst (λ h. HasCleanDisk (state g.S.Store h) → (S : Content) → HasContent old S → LeavesOthers old (state g.S.Store h)) (sym same) (λ clean S has.
    let before = clean_before middle new c.drop-tx-then-not-is_new.ensures.survives clean in
    still_others old start is middle new (c.in_ok-is_new.ensures.writes_inside.commit before (inside_content old start is settled S has)) (rolled_keeps old start is middle new (c.drop-tx-then-not-is_new.ensures.undone clean)))

pub returns-in_err-commit-clause-others : goal.returns-in_err-commit-clause-others
returns-in_err-commit-clause-others g c =
    let old = state g.S.Store c.args.conn.now in
    let start = state g.S.Store c.transaction-tx.result.conn.now in
    let is = ap (state g.S.Store) c.transaction-tx.ensures.begun in
    let middle = state g.S.Store c.serve_in.new.tx.conn.now in
    let settled = c.is_autocommit.ensures.settled c.if-not-is_autocommit.false in
    let new = state g.S.Store c.commit.new.self.0 in
    let same = c.conn-2-1.given.1 (sym (c.in_ok-is_new.ensures.same_reference ∙ c.transaction-tx.ensures.same_reference)) in
    subst (λ h. HasCleanDisk (state g.S.Store h) → (S : Content) → HasContent old S → LeavesOthers old (state g.S.Store h)) (sym same) (λ clean S has.
    let before = clean_before middle new c.in_err-commit.ensures.survives clean in
    still_others old start is middle new (c.in_ok-is_new.ensures.writes_inside.commit before (inside_content old start is settled S has)) (failed_keeps old start is middle new _ (c.in_err-commit.ensures.err clean)))

pub returns-clause-others : goal.returns-clause-others
returns-clause-others g c =
    let old = state g.S.Store c.args.conn.now in
    let start = state g.S.Store c.transaction-tx.result.conn.now in
    let is = ap (state g.S.Store) c.transaction-tx.ensures.begun in
    let middle = state g.S.Store c.serve_in.new.tx.conn.now in
    let settled = c.is_autocommit.ensures.settled c.if-not-is_autocommit.false in
    let new = state g.S.Store c.commit.new.self.0 in
    let same = c.conn-2-1.given.1 (sym (c.in_ok-is_new.ensures.same_reference ∙ c.transaction-tx.ensures.same_reference)) in
    subst (λ h. HasCleanDisk (state g.S.Store h) → (S : Content) → HasContent old S → LeavesOthers old (state g.S.Store h)) (sym same) (λ clean S has.
    let before = clean_before middle new c.in_ok-commit.ensures.survives clean in
    let inside = inside_content old start is settled S has in
    committed_others old start is middle new (c.in_ok-is_new.ensures.writes_inside.commit before inside) (c.in_ok-is_new.ensures.writes_inside.inside before inside) (c.in_ok-commit.ensures.ok clean).1)

-- ---- a number is new or kept, and not both

pub returns-then-not-is_new-clause-opened : goal.returns-then-not-is_new-clause-opened
returns-then-not-is_new-clause-opened g c clean S has none =
    let old = state g.S.Store c.args.conn.now in
    let start = state g.S.Store c.transaction-tx.result.conn.now in
    let is = ap (state g.S.Store) c.transaction-tx.ensures.begun in
    let middle = state g.S.Store c.serve_in.new.tx.conn.now in
    let settled = c.is_autocommit.ensures.settled c.if-not-is_autocommit.false in
    let new = state g.S.Store c.drop-tx-then-not-is_new.new.self.0 in
    let same = c.conn-then-not-is_new-1.given.1 (sym (c.in_ok-is_new.ensures.same_reference ∙ c.transaction-tx.ensures.same_reference)) in
    let before = clean_before middle new c.drop-tx-then-not-is_new.ensures.survives (subst (λ h. HasCleanDisk (state g.S.Store h)) same clean) in
    let first = (c.in_ok-is_new.ensures.serves before (inside_content old start is settled S has) S (sees_content old start is settled S has)).first in
    absurd (let e = sym c.if-not-is_new.true ∙ first ∙ ap not none in cc)

pub returns-then-not-is_new-clause-durable : goal.returns-then-not-is_new-clause-durable
returns-then-not-is_new-clause-durable g c clean S has none db may =
    let old = state g.S.Store c.args.conn.now in
    let start = state g.S.Store c.transaction-tx.result.conn.now in
    let is = ap (state g.S.Store) c.transaction-tx.ensures.begun in
    let middle = state g.S.Store c.serve_in.new.tx.conn.now in
    let settled = c.is_autocommit.ensures.settled c.if-not-is_autocommit.false in
    let new = state g.S.Store c.drop-tx-then-not-is_new.new.self.0 in
    let same = c.conn-then-not-is_new-1.given.1 (sym (c.in_ok-is_new.ensures.same_reference ∙ c.transaction-tx.ensures.same_reference)) in
    let before = clean_before middle new c.drop-tx-then-not-is_new.ensures.survives (subst (λ h. HasCleanDisk (state g.S.Store h)) same clean) in
    let first = (c.in_ok-is_new.ensures.serves before (inside_content old start is settled S has) S (sees_content old start is settled S has)).first in
    absurd (let e = sym c.if-not-is_new.true ∙ first ∙ ap not none in cc)

pub returns-clause-again : goal.returns-clause-again
returns-clause-again g c clean S has known db may =
    let old = state g.S.Store c.args.conn.now in
    let start = state g.S.Store c.transaction-tx.result.conn.now in
    let is = ap (state g.S.Store) c.transaction-tx.ensures.begun in
    let middle = state g.S.Store c.serve_in.new.tx.conn.now in
    let settled = c.is_autocommit.ensures.settled c.if-not-is_autocommit.false in
    let new = state g.S.Store c.commit.new.self.0 in
    let same = c.conn-2-1.given.1 (sym (c.in_ok-is_new.ensures.same_reference ∙ c.transaction-tx.ensures.same_reference)) in
    let before = clean_before middle new c.in_ok-commit.ensures.survives (subst (λ h. HasCleanDisk (state g.S.Store h)) same clean) in
    let first = (c.in_ok-is_new.ensures.serves before (inside_content old start is settled S has) S (sees_content old start is settled S has)).first in
    absurd (let e = sym c.if-not-is_new.false ∙ first ∙ ap not known in cc)
