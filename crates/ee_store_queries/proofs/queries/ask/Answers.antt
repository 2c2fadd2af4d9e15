use Rattle.std.proofs.Common.{sym, ap, subst, ◌∙◌, rules}
use Rattle.sqlite.specs.Held.{state}
use Rattle.ee_desk_model.specs.Repeats.{Content}
use Rattle.ee_desk_model.specs.declared.queries.Shown.{Shown}
use Rattle.ee_desk_model.specs.Queries.{ShowsQuery}
use Rattle.ee_store_queries.specs.Asking.{ShowsContent, KeepsContent, KeepsRoom, AnswersOrFails}
use Rattle.ee_store_books.specs.Causes.{IsReady}
use Rattle.ee_store_queries.proofs.QueryCauses.{read_shows, read_fails, read_ready, read_keeps, read_room}
use Rattle.ee_store_queries.proofs.queries.ask.Goals as goal

pub returns-clause-kept : goal.returns-clause-kept
returns-clause-kept g c =
    let old = state g.S.Store c.args.conn.now in
    let start = state g.S.Store c.transaction-tx.result.conn.now in
    let is = ap (state g.S.Store) c.transaction-tx.ensures.begun in
    let settled = c.is_autocommit.ensures.settled c.if-not-is_autocommit.false in
    let middle = state g.S.Store c.shown_in.new.tx.conn.now in
    let new = state g.S.Store c.drop-tx.new.self.0 in
    let same = c.conn-1.given.1 (sym (c.shown_in.ensures.same_reference ∙ c.transaction-tx.ensures.same_reference)) in
    subst (λ h. KeepsContent old (state g.S.Store h)) (sym same)
    (read_keeps old start is settled middle new c.shown_in.ensures.commit c.drop-tx.ensures.survives c.drop-tx.ensures.undone)

pub returns-clause-ready : goal.returns-clause-ready
returns-clause-ready g c =
    let old = state g.S.Store c.args.conn.now in
    let start = state g.S.Store c.transaction-tx.result.conn.now in
    let is = ap (state g.S.Store) c.transaction-tx.ensures.begun in
    let middle = state g.S.Store c.shown_in.new.tx.conn.now in
    let new = state g.S.Store c.drop-tx.new.self.0 in
    let same = c.conn-1.given.1 (sym (c.shown_in.ensures.same_reference ∙ c.transaction-tx.ensures.same_reference)) in
    subst (λ h. IsReady old → IsReady (state g.S.Store h)) (sym same)
    (read_ready old start is middle new c.shown_in.ensures.crash c.drop-tx.ensures.survives c.drop-tx.ensures.ended)

pub returns-clause-room : goal.returns-clause-room
returns-clause-room g c =
    let old = state g.S.Store c.args.conn.now in
    let start = state g.S.Store c.transaction-tx.result.conn.now in
    let is = ap (state g.S.Store) c.transaction-tx.ensures.begun in
    let settled = c.is_autocommit.ensures.settled c.if-not-is_autocommit.false in
    let middle = state g.S.Store c.shown_in.new.tx.conn.now in
    let new = state g.S.Store c.drop-tx.new.self.0 in
    let same = c.conn-1.given.1 (sym (c.shown_in.ensures.same_reference ∙ c.transaction-tx.ensures.same_reference)) in
    subst (λ h. KeepsRoom old (state g.S.Store h)) (sym same)
    (read_room old start is settled middle new c.shown_in.ensures.commit c.drop-tx.ensures.survives c.drop-tx.ensures.undone)

pub returns-clause-cause : goal.returns-clause-cause
returns-clause-cause g c =
    let old = state g.S.Store c.args.conn.now in
    let start = state g.S.Store c.transaction-tx.result.conn.now in
    let is = ap (state g.S.Store) c.transaction-tx.ensures.begun in
    let settled = c.is_autocommit.ensures.settled c.if-not-is_autocommit.false in
    let middle = state g.S.Store c.shown_in.new.tx.conn.now in
    let new = state g.S.Store c.drop-tx.new.self.0 in
    let same = c.conn-1.given.1 (sym (c.shown_in.ensures.same_reference ∙ c.transaction-tx.ensures.same_reference)) in
    subst (λ h. AnswersOrFails old (state g.S.Store h) c.shown_in.result) (sym same)
    (read_fails old start is middle new c.shown_in.ensures.crash c.drop-tx.ensures.survives settled c.shown_in.result c.shown_in.ensures.cause)

pub returns-clause-crash : goal.returns-clause-crash
returns-clause-crash g c = search rules

pub returns-clause-shown : goal.returns-clause-shown
returns-clause-shown g c =
    let old = state g.S.Store c.args.conn.now in
    let start = state g.S.Store c.transaction-tx.result.conn.now in
    let is = ap (state g.S.Store) c.transaction-tx.ensures.begun in
    let settled = c.is_autocommit.ensures.settled c.if-not-is_autocommit.false in
    let middle = state g.S.Store c.shown_in.new.tx.conn.now in
    let new = state g.S.Store c.drop-tx.new.self.0 in
    let same = c.conn-1.given.1 (sym (c.shown_in.ensures.same_reference ∙ c.transaction-tx.ensures.same_reference)) in
    let Is : Content → Shown → Type 0 = λ content shown. ShowsQuery content.books c.args.query.now shown in
    subst (λ h. ShowsContent old (state g.S.Store h) c.shown_in.result Is) (sym same)
    (read_shows old start is middle new c.shown_in.ensures.crash c.drop-tx.ensures.survives settled Is c.shown_in.result c.shown_in.ensures.found)

pub returns-then-not-is_autocommit-clause-cause : goal.returns-then-not-is_autocommit-clause-cause
returns-then-not-is_autocommit-clause-cause g c = search rules

pub returns-then-not-is_autocommit-clause-crash : goal.returns-then-not-is_autocommit-clause-crash
returns-then-not-is_autocommit-clause-crash g c = search rules

pub returns-then-not-is_autocommit-clause-kept : goal.returns-then-not-is_autocommit-clause-kept
returns-then-not-is_autocommit-clause-kept g c = search rules

pub returns-then-not-is_autocommit-clause-ready : goal.returns-then-not-is_autocommit-clause-ready
returns-then-not-is_autocommit-clause-ready g c = search rules

pub returns-then-not-is_autocommit-clause-room : goal.returns-then-not-is_autocommit-clause-room
returns-then-not-is_autocommit-clause-room g c = search rules

pub returns-then-not-is_autocommit-clause-shown : goal.returns-then-not-is_autocommit-clause-shown
returns-then-not-is_autocommit-clause-shown g c = search rules
