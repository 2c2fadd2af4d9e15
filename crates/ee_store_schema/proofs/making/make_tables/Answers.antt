use Rattle.std.proofs.Common.{◌∙◌, sym, ap, subst, rules}
use Rattle.sqlite.specs.Held.{state}
use Rattle.sqlite.specs.Effect.{Database}
use Rattle.sqlite.specs.State.{HasCleanDisk, Survives}
use Rattle.ee_store_tables.specs.Rows.{Has, Stores}
use Rattle.ee_store_tables.proofs.Lemmas.Meeting.{stored_sees}
use Rattle.ee_store_tables.proofs.Lemmas.Transactions.{clean_before, committed_has, commit_survives}
use Rattle.ee_store_schema.specs.Making.{IsBlank, first_rows}
use Rattle.ee_store_schema.proofs.Lemmas.Beginning.{sees_none}
use Rattle.ee_store_schema.proofs.making.make_tables.Goals as goal

pub returns-in_err-commit-clause-crash : goal.returns-in_err-commit-clause-crash
returns-in_err-commit-clause-crash g c =
    let old = state g.S.Store c.args.conn.now in
    let start = state g.S.Store c.transaction-tx.result.conn.now in
    let is = ap (state g.S.Store) c.transaction-tx.ensures.begun in
    let middle = state g.S.Store c.make_in.new.tx.conn.now in
    let new = state g.S.Store c.commit.new.self.0 in
    let same = c.conn-2-1.given.1 (sym (c.in_ok-make_in.ensures.same_reference ∙ c.transaction-tx.ensures.same_reference)) in
    let settled = c.is_autocommit.ensures.settled c.if-not-is_autocommit.false in
    subst (λ h. Survives old (state g.S.Store h) (λ db. IsBlank old → Stores db first_rows)) (sym same)
    (commit_survives old start is middle new (λ db. IsBlank old → Stores db first_rows)
    (λ before blank. let none = sees_none old start is settled blank in let is_open = c.in_ok-make_in.ensures.makes_inside.still_open before in
    stored_sees middle first_rows is_open (c.in_ok-make_in.ensures.sound before none is_open) (c.in_ok-make_in.ensures.added before none))
    c.in_ok-make_in.ensures.makes_inside.crash c.in_err-commit.ensures.survives)

pub returns-clause-made : goal.returns-clause-made
returns-clause-made g c =
    let old = state g.S.Store c.args.conn.now in
    let start = state g.S.Store c.transaction-tx.result.conn.now in
    let is = ap (state g.S.Store) c.transaction-tx.ensures.begun in
    let middle = state g.S.Store c.make_in.new.tx.conn.now in
    let new = state g.S.Store c.commit.new.self.0 in
    let same = c.conn-2-1.given.1 (sym (c.in_ok-make_in.ensures.same_reference ∙ c.transaction-tx.ensures.same_reference)) in
    let settled = c.is_autocommit.ensures.settled c.if-not-is_autocommit.false in
    subst (λ h. HasCleanDisk (state g.S.Store h) → IsBlank old → Has (state g.S.Store h) first_rows) (sym same) (λ clean blank.
    let before = clean_before middle new c.in_ok-commit.ensures.survives clean in
    committed_has old start is middle new first_rows (c.in_ok-make_in.ensures.added before (sees_none old start is settled blank)) (c.in_ok-commit.ensures.ok clean).1)

pub returns-clause-stored : goal.returns-clause-stored
returns-clause-stored g c =
    let old = state g.S.Store c.args.conn.now in
    let start = state g.S.Store c.transaction-tx.result.conn.now in
    let is = ap (state g.S.Store) c.transaction-tx.ensures.begun in
    let middle = state g.S.Store c.make_in.new.tx.conn.now in
    let new = state g.S.Store c.commit.new.self.0 in
    let same = c.conn-2-1.given.1 (sym (c.in_ok-make_in.ensures.same_reference ∙ c.transaction-tx.ensures.same_reference)) in
    let settled = c.is_autocommit.ensures.settled c.if-not-is_autocommit.false in
    subst (λ h. HasCleanDisk (state g.S.Store h) → IsBlank old → Stores (state g.S.Store h).committed.trees first_rows) (sym same) (λ clean blank.
    let before = clean_before middle new c.in_ok-commit.ensures.survives clean in
    let none = sees_none old start is settled blank in
    let is_open = c.in_ok-make_in.ensures.makes_inside.still_open before in
    subst (λ (d : Database). Stores d.trees first_rows) (sym (c.in_ok-commit.ensures.ok clean).1.committed_is)
    (stored_sees middle first_rows is_open (c.in_ok-make_in.ensures.sound before none is_open) (c.in_ok-make_in.ensures.added before none)))

pub returns-clause-crash : goal.returns-clause-crash
returns-clause-crash g c =
    let old = state g.S.Store c.args.conn.now in
    let start = state g.S.Store c.transaction-tx.result.conn.now in
    let is = ap (state g.S.Store) c.transaction-tx.ensures.begun in
    let middle = state g.S.Store c.make_in.new.tx.conn.now in
    let new = state g.S.Store c.commit.new.self.0 in
    let same = c.conn-2-1.given.1 (sym (c.in_ok-make_in.ensures.same_reference ∙ c.transaction-tx.ensures.same_reference)) in
    let settled = c.is_autocommit.ensures.settled c.if-not-is_autocommit.false in
    subst (λ h. Survives old (state g.S.Store h) (λ db. IsBlank old → Stores db first_rows)) (sym same)
    (commit_survives old start is middle new (λ db. IsBlank old → Stores db first_rows)
    (λ before blank. let none = sees_none old start is settled blank in let is_open = c.in_ok-make_in.ensures.makes_inside.still_open before in
    stored_sees middle first_rows is_open (c.in_ok-make_in.ensures.sound before none is_open) (c.in_ok-make_in.ensures.added before none))
    c.in_ok-make_in.ensures.makes_inside.crash c.in_ok-commit.ensures.survives)

pub returns-clause-cause : goal.returns-clause-cause
returns-clause-cause g c = search rules

pub returns-clause-durable : goal.returns-clause-durable
returns-clause-durable g c = search rules

pub returns-clause-ended : goal.returns-clause-ended
returns-clause-ended g c = search rules

pub returns-clause-failed : goal.returns-clause-failed
returns-clause-failed g c = search rules

pub returns-clause-open : goal.returns-clause-open
returns-clause-open g c = search rules

pub returns-clause-other : goal.returns-clause-other
returns-clause-other g c = search rules

pub returns-clause-usable : goal.returns-clause-usable
returns-clause-usable g c = search rules

pub returns-in_err-commit-clause-cause : goal.returns-in_err-commit-clause-cause
returns-in_err-commit-clause-cause g c = search rules

pub returns-in_err-commit-clause-durable : goal.returns-in_err-commit-clause-durable
returns-in_err-commit-clause-durable g c = search rules

pub returns-in_err-commit-clause-ended : goal.returns-in_err-commit-clause-ended
returns-in_err-commit-clause-ended g c = search rules

pub returns-in_err-commit-clause-failed : goal.returns-in_err-commit-clause-failed
returns-in_err-commit-clause-failed g c = search rules

pub returns-in_err-commit-clause-made : goal.returns-in_err-commit-clause-made
returns-in_err-commit-clause-made g c = search rules

pub returns-in_err-commit-clause-open : goal.returns-in_err-commit-clause-open
returns-in_err-commit-clause-open g c = search rules

pub returns-in_err-commit-clause-other : goal.returns-in_err-commit-clause-other
returns-in_err-commit-clause-other g c = search rules

pub returns-in_err-commit-clause-stored : goal.returns-in_err-commit-clause-stored
returns-in_err-commit-clause-stored g c = search rules

pub returns-in_err-commit-clause-usable : goal.returns-in_err-commit-clause-usable
returns-in_err-commit-clause-usable g c = search rules

pub returns-in_err-make_in-clause-cause : goal.returns-in_err-make_in-clause-cause
returns-in_err-make_in-clause-cause g c = search rules

pub returns-in_err-make_in-clause-crash : goal.returns-in_err-make_in-clause-crash
returns-in_err-make_in-clause-crash g c = search rules

pub returns-in_err-make_in-clause-durable : goal.returns-in_err-make_in-clause-durable
returns-in_err-make_in-clause-durable g c = search rules

pub returns-in_err-make_in-clause-ended : goal.returns-in_err-make_in-clause-ended
returns-in_err-make_in-clause-ended g c = search rules

pub returns-in_err-make_in-clause-failed : goal.returns-in_err-make_in-clause-failed
returns-in_err-make_in-clause-failed g c = search rules

pub returns-in_err-make_in-clause-made : goal.returns-in_err-make_in-clause-made
returns-in_err-make_in-clause-made g c = search rules

pub returns-in_err-make_in-clause-open : goal.returns-in_err-make_in-clause-open
returns-in_err-make_in-clause-open g c = search rules

pub returns-in_err-make_in-clause-other : goal.returns-in_err-make_in-clause-other
returns-in_err-make_in-clause-other g c = search rules

pub returns-in_err-make_in-clause-stored : goal.returns-in_err-make_in-clause-stored
returns-in_err-make_in-clause-stored g c = search rules

pub returns-in_err-make_in-clause-usable : goal.returns-in_err-make_in-clause-usable
returns-in_err-make_in-clause-usable g c = search rules

pub returns-then-not-is_autocommit-clause-cause : goal.returns-then-not-is_autocommit-clause-cause
returns-then-not-is_autocommit-clause-cause g c = search rules

pub returns-then-not-is_autocommit-clause-crash : goal.returns-then-not-is_autocommit-clause-crash
returns-then-not-is_autocommit-clause-crash g c = search rules

pub returns-then-not-is_autocommit-clause-durable : goal.returns-then-not-is_autocommit-clause-durable
returns-then-not-is_autocommit-clause-durable g c = search rules

pub returns-then-not-is_autocommit-clause-ended : goal.returns-then-not-is_autocommit-clause-ended
returns-then-not-is_autocommit-clause-ended g c = search rules

pub returns-then-not-is_autocommit-clause-failed : goal.returns-then-not-is_autocommit-clause-failed
returns-then-not-is_autocommit-clause-failed g c = search rules

pub returns-then-not-is_autocommit-clause-made : goal.returns-then-not-is_autocommit-clause-made
returns-then-not-is_autocommit-clause-made g c = search rules

pub returns-then-not-is_autocommit-clause-open : goal.returns-then-not-is_autocommit-clause-open
returns-then-not-is_autocommit-clause-open g c = search rules

pub returns-then-not-is_autocommit-clause-other : goal.returns-then-not-is_autocommit-clause-other
returns-then-not-is_autocommit-clause-other g c = search rules

pub returns-then-not-is_autocommit-clause-stored : goal.returns-then-not-is_autocommit-clause-stored
returns-then-not-is_autocommit-clause-stored g c = search rules

pub returns-then-not-is_autocommit-clause-usable : goal.returns-then-not-is_autocommit-clause-usable
returns-then-not-is_autocommit-clause-usable g c = search rules
