use Rattle.std.proofs.Common.{◌≡◌, ◌≢◌, ◌∙◌, ◌+◌, ◌≤◌, ◌^◌, ℕ, length, false, None, IsTrue, IfErr, refl, sym, ap, subst, true≢false, rules}
use Rattle.sqlite.specs.Effect.{Database}
use Rattle.sqlite.specs.Held.{state}
use Rattle.sqlite.specs.State.{State, HasCleanDisk, Survives}
use Rattle.sqlite.specs.Steps.{FailsToCommit}
use Rattle.ee_store_tables.specs.Rows.{Rows, Has, HasRoom, Stores}
use Rattle.ee_store_tables.specs.Tables.{HasCounterTables}
use Rattle.ee_store_tables.specs.Failures.{failure_of}
use Rattle.ee_store_tables.proofs.Lemmas.Causes.{excused_before}
use Rattle.ee_store_tables.proofs.Lemmas.Meeting.{stored_sees}
use Rattle.ee_store_tables.proofs.Lemmas.Transactions.{clean_before, committed_has, commit_survives}
use Rattle.ee_store_schema.specs.declared.faults.OpenFault.TheVariants.{Unusable, WrongVersion}
use Rattle.ee_store_schema.specs.declared.forms.Form.TheVariants.{Current}
use Rattle.ee_store_schema.specs.Faults.{IsExcused, fault_told}
use Rattle.ee_store_schema.specs.Forms.{HadIn, HasForm}
use Rattle.ee_store_schema.specs.Migrating.{BondsAndLinesHaveRoom, CanBecome, Lists, become, migrated, Migrates}
use Rattle.ee_store_schema.specs.Inner.Migrating.{BegunIn}
use Rattle.ee_store_schema.proofs.Lemmas.Beginning.{was_open, sees_form, sees_had, still_form}
use Rattle.ee_store_schema.proofs.Lemmas.Faults.{handed_on}
use Rattle.ee_store_schema.proofs.Lemmas.Forms.{had_form}
use Rattle.ee_store_schema.proofs.MigrateLemmas.{told_never, committed_room, told_excused, begun_excused, commit_excused, failure_then, becomes_migrated, stays_current, of_earlier}
use Rattle.ee_store_schema.proofs.migrating.migrate.Goals.{in-Current, in_default}
use Rattle.ee_store_schema.proofs.migrating.migrate.Goals as goal

-- ---- the present form

pub returns-then-matches-clause-made : goal.returns-then-matches-clause-made
returns-then-matches-clause-made g c clean rows had listed =
    let is : c.args.form ≡ Current = elim c.match-matches.branch [ in-Current w ↦ w.in-Current.is | in_default w ↦ absurd (true≢false (sym c.if-matches.true ∙ w.matches-is)) ] in
    stays_current c.args.form (state g.S.Store c.args.conn.now) rows is had

pub returns-then-matches-clause-room : goal.returns-then-matches-clause-room
returns-then-matches-clause-room g c clean rows had earlier =
    absurd (earlier (elim c.match-matches.branch [ in-Current w ↦ w.in-Current.is | in_default w ↦ absurd (true≢false (sym c.if-matches.true ∙ w.matches-is)) ]))

-- ---- the earlier ones

pub returns-in_err-migrate_in-clause-cause : goal.returns-in_err-migrate_in-clause-cause
returns-in_err-migrate_in-clause-cause g c =
    let old = state g.S.Store c.args.conn.now in
    let start = state g.S.Store c.transaction-tx.result.conn.now in
    let is = ap (state g.S.Store) c.transaction-tx.ensures.begun in
    let middle = state g.S.Store c.migrate_in.new.tx.conn.now in
    let new = state g.S.Store c.drop-tx.new.self.0 in
    let same = c.conn-1.given.1 (sym (c.in_err-migrate_in.ensures.same_reference ∙ c.transaction-tx.ensures.same_reference)) in
    let settled = c.is_autocommit.ensures.settled c.if-not-is_autocommit.false in
    let form = c.args.form in
    let earlier : form ≢ Current = elim c.match-matches.branch [ in-Current w ↦ absurd (true≢false (sym w.matches-is ∙ c.if-matches.false)) | in_default w ↦ w.in_default.not-Current ] in
    let failure = c.in_err-migrate_in.field-0.0 in
    subst (λ h. HasCleanDisk (state g.S.Store h) → ((old.in_transaction ≡ false) × CanBecome form c.args.answers.now old) → old.step_limit ≡ None → IfErr c.from_residual.result (IsExcused old (state g.S.Store h))) (sym same)
    (λ clean starts limit.
    let had = of_earlier form c.args.answers.now old earlier starts.1 in
    let before = clean_before middle new c.drop-tx.ensures.survives clean in
    let begun_inside : IsTrue start.in_transaction = subst (λ (s : State). IsTrue s.in_transaction) (sym is) refl in
    let unlimited : start.step_limit ≡ None = subst (λ (s : State). s.step_limit ≡ None) (sym is) limit in
    handed_on (IsExcused old new) c.from_residual.result (fault_told failure) c.from_residual.ensures.1
    (told_excused old new failure (excused_before old middle new c.drop-tx.ensures.survives.counts failure (begun_excused old start middle is failure
    (c.in_err-migrate_in.ensures.cause before (begun_inside, had.0, sees_had form old settled start is had.0 had.1, still_form form old settled start is (had_form form old had.0 had.1), had.2, had.3) unlimited)))))

pub returns-in-Err-clause-told : goal.returns-in-Err-clause-told
returns-in-Err-clause-told g c = subst (λ e. (e ≢ Unusable) × (e ≢ WrongVersion)) (sym c.commit_fault.ensures) (told_never (failure_of c.in-Err.error))

pub returns-in-Err-clause-cause : goal.returns-in-Err-clause-cause
returns-in-Err-clause-cause g c =
    let old = state g.S.Store c.args.conn.now in
    let start = state g.S.Store c.transaction-tx.result.conn.now in
    let is = ap (state g.S.Store) c.transaction-tx.ensures.begun in
    let middle = state g.S.Store c.migrate_in.new.tx.conn.now in
    let new = state g.S.Store c.commit.new.self.0 in
    let same = c.conn-2-1.given.1 (sym (c.in_ok-migrate_in.ensures.same_reference ∙ c.transaction-tx.ensures.same_reference)) in
    let settled = c.is_autocommit.ensures.settled c.if-not-is_autocommit.false in
    let form = c.args.form in
    let all = c.args.answers.now in
    let it = c.in_ok-migrate_in.ensures in
    let earlier : form ≢ Current = elim c.match-matches.branch [ in-Current w ↦ absurd (true≢false (sym w.matches-is ∙ c.if-matches.false)) | in_default w ↦ w.in_default.not-Current ] in
    let e = c.in-Err.error in
    subst (λ h. HasCleanDisk (state g.S.Store h) → ((old.in_transaction ≡ false) × CanBecome form all old) → old.step_limit ≡ None → IsExcused old (state g.S.Store h) c.commit_fault.result) (sym same)
    (λ clean starts limit.
    let had = of_earlier form all old earlier starts.1 in
    let before = clean_before middle new c.commit.ensures.survives clean in
    let inside = (it.inside before ((λ o. (sees_had form old settled start is had.0 had.1 o).0), still_form form old settled start is (had_form form old had.0 had.1)) (it.open before)).0 in
    let fails = subst (λ r. IfErr r (FailsToCommit middle new)) c.in-Err.is (c.commit.ensures.err clean) in
    subst (IsExcused old new) (sym c.commit_fault.ensures) (told_excused old new (failure_of e) (begun_excused old start new is (failure_of e)
    (failure_then start middle new it.crash c.commit.ensures.survives clean (failure_of e) (commit_excused middle new e inside fails)))))

pub returns-in-Err-clause-crash : goal.returns-in-Err-clause-crash
returns-in-Err-clause-crash g c =
    let old = state g.S.Store c.args.conn.now in
    let start = state g.S.Store c.transaction-tx.result.conn.now in
    let is = ap (state g.S.Store) c.transaction-tx.ensures.begun in
    let middle = state g.S.Store c.migrate_in.new.tx.conn.now in
    let new = state g.S.Store c.commit.new.self.0 in
    let same = c.conn-2-1.given.1 (sym (c.in_ok-migrate_in.ensures.same_reference ∙ c.transaction-tx.ensures.same_reference)) in
    let settled = c.is_autocommit.ensures.settled c.if-not-is_autocommit.false in
    let form = c.args.form in
    let all = c.args.answers.now in
    let it = c.in_ok-migrate_in.ensures in
    let earlier : form ≢ Current = elim c.match-matches.branch [ in-Current w ↦ absurd (true≢false (sym w.matches-is ∙ c.if-matches.false)) | in_default w ↦ w.in_default.not-Current ] in
    subst (λ h. Survives old (state g.S.Store h) (Migrates form all old)) (sym same)
    (commit_survives old start is middle new (Migrates form all old) (λ before.
    let is_open = it.open before in
    record {
      earlier = earlier;
      was_open = was_open old start middle is (it.commit before) is_open;
      stores = λ rows had listed.
          let has = had_form form old rows had in
          let ours : BegunIn form start = (sees_form form old settled start is has, still_form form old settled start is has) in
          subst (Stores middle.now.trees) (sym (becomes_migrated form rows earlier))
          (stored_sees middle (migrated rows) is_open (it.sound before ours is_open) (it.made before rows (sees_had form old settled start is rows had) listed));
    }) it.crash c.commit.ensures.survives)

pub returns-in-Ok-clause-made : goal.returns-in-Ok-clause-made
returns-in-Ok-clause-made g c =
    let old = state g.S.Store c.args.conn.now in
    let start = state g.S.Store c.transaction-tx.result.conn.now in
    let is = ap (state g.S.Store) c.transaction-tx.ensures.begun in
    let middle = state g.S.Store c.migrate_in.new.tx.conn.now in
    let new = state g.S.Store c.commit.new.self.0 in
    let same = c.conn-2-1.given.1 (sym (c.in_ok-migrate_in.ensures.same_reference ∙ c.transaction-tx.ensures.same_reference)) in
    let settled = c.is_autocommit.ensures.settled c.if-not-is_autocommit.false in
    let form = c.args.form in
    let all = c.args.answers.now in
    let it = c.in_ok-migrate_in.ensures in
    let earlier : form ≢ Current = elim c.match-matches.branch [ in-Current w ↦ absurd (true≢false (sym w.matches-is ∙ c.if-matches.false)) | in_default w ↦ w.in_default.not-Current ] in
    subst (λ h. HasCleanDisk (state g.S.Store h) → (rows : Rows) → HadIn form old rows → Lists all rows → Has (state g.S.Store h) (become form rows)) (sym same) (λ clean rows had listed.
    let before = clean_before middle new c.commit.ensures.survives clean in
    subst (Has new) (sym (becomes_migrated form rows earlier))
    (committed_has old start is middle new (migrated rows) (it.made before rows (sees_had form old settled start is rows had) listed) (c.in-Ok.ensures.ok clean).1))

pub returns-in-Ok-clause-current : goal.returns-in-Ok-clause-current
returns-in-Ok-clause-current g c =
    let old = state g.S.Store c.args.conn.now in
    let start = state g.S.Store c.transaction-tx.result.conn.now in
    let is = ap (state g.S.Store) c.transaction-tx.ensures.begun in
    let middle = state g.S.Store c.migrate_in.new.tx.conn.now in
    let new = state g.S.Store c.commit.new.self.0 in
    let same = c.conn-2-1.given.1 (sym (c.in_ok-migrate_in.ensures.same_reference ∙ c.transaction-tx.ensures.same_reference)) in
    let settled = c.is_autocommit.ensures.settled c.if-not-is_autocommit.false in
    let form = c.args.form in
    let all = c.args.answers.now in
    let it = c.in_ok-migrate_in.ensures in
    subst (λ h. HasCleanDisk (state g.S.Store h) → HasForm form old → HasForm Current (state g.S.Store h)) (sym same) (λ clean ours is_open.
    let before = clean_before middle new c.commit.ensures.survives clean in
    let shows = (c.in-Ok.ensures.ok clean).1 in
    subst (λ (d : Database). HasCounterTables d.schema) (sym shows.committed_is) (it.inside before (sees_form form old settled start is ours, still_form form old settled start is ours) shows.was_open).1)

pub returns-in-Ok-clause-room : goal.returns-in-Ok-clause-room
returns-in-Ok-clause-room g c =
    let old = state g.S.Store c.args.conn.now in
    let start = state g.S.Store c.transaction-tx.result.conn.now in
    let is = ap (state g.S.Store) c.transaction-tx.ensures.begun in
    let middle = state g.S.Store c.migrate_in.new.tx.conn.now in
    let new = state g.S.Store c.commit.new.self.0 in
    let same = c.conn-2-1.given.1 (sym (c.in_ok-migrate_in.ensures.same_reference ∙ c.transaction-tx.ensures.same_reference)) in
    let settled = c.is_autocommit.ensures.settled c.if-not-is_autocommit.false in
    let form = c.args.form in
    let count = length c.args.answers.now in
    let it = c.in_ok-migrate_in.ensures in
    subst (λ h. HasCleanDisk (state g.S.Store h) → (rows : Rows) → HadIn form old rows → form ≢ Current → (n : ℕ) → BondsAndLinesHaveRoom (n + count) old.committed.trees
    → 1 + (n + count) ≤ 2 ^ 63 → HasRoom n (state g.S.Store h)) (sym same) (λ clean rows had _ n few most.
    let before = clean_before middle new c.commit.ensures.survives clean in
    let was = was_open old start middle is (it.commit before) (it.open before) in
    let begun_with : start.now.trees ≡ old.committed.trees = ap (λ (s : State). s.now.trees) is ∙ ap (λ (d : Database). d.trees) (settled was) in
    committed_room middle new (c.in-Ok.ensures.ok clean).1 n
    (it.room before rows (sees_had form old settled start is rows had) (still_form form old settled start is (had_form form old rows had)) n (subst (BondsAndLinesHaveRoom (n + count)) (sym begun_with) few) most))

pub returns-in-Ok-clause-crash : goal.returns-in-Ok-clause-crash
returns-in-Ok-clause-crash g c =
    let old = state g.S.Store c.args.conn.now in
    let start = state g.S.Store c.transaction-tx.result.conn.now in
    let is = ap (state g.S.Store) c.transaction-tx.ensures.begun in
    let middle = state g.S.Store c.migrate_in.new.tx.conn.now in
    let new = state g.S.Store c.commit.new.self.0 in
    let same = c.conn-2-1.given.1 (sym (c.in_ok-migrate_in.ensures.same_reference ∙ c.transaction-tx.ensures.same_reference)) in
    let settled = c.is_autocommit.ensures.settled c.if-not-is_autocommit.false in
    let form = c.args.form in
    let all = c.args.answers.now in
    let it = c.in_ok-migrate_in.ensures in
    let earlier : form ≢ Current = elim c.match-matches.branch [ in-Current w ↦ absurd (true≢false (sym w.matches-is ∙ c.if-matches.false)) | in_default w ↦ w.in_default.not-Current ] in
    subst (λ h. Survives old (state g.S.Store h) (Migrates form all old)) (sym same)
    (commit_survives old start is middle new (Migrates form all old) (λ before.
    let is_open = it.open before in
    record {
      earlier = earlier;
      was_open = was_open old start middle is (it.commit before) is_open;
      stores = λ rows had listed.
          let has = had_form form old rows had in
          let ours : BegunIn form start = (sees_form form old settled start is has, still_form form old settled start is has) in
          subst (Stores middle.now.trees) (sym (becomes_migrated form rows earlier))
          (stored_sees middle (migrated rows) is_open (it.sound before ours is_open) (it.made before rows (sees_had form old settled start is rows had) listed));
    }) it.crash c.commit.ensures.survives)

pub returns-in-Err-clause-current : goal.returns-in-Err-clause-current
returns-in-Err-clause-current g c = search rules

pub returns-in-Err-clause-durable : goal.returns-in-Err-clause-durable
returns-in-Err-clause-durable g c = search rules

pub returns-in-Err-clause-ended : goal.returns-in-Err-clause-ended
returns-in-Err-clause-ended g c = search rules

pub returns-in-Err-clause-failed : goal.returns-in-Err-clause-failed
returns-in-Err-clause-failed g c = search rules

pub returns-in-Err-clause-made : goal.returns-in-Err-clause-made
returns-in-Err-clause-made g c = search rules

pub returns-in-Err-clause-open : goal.returns-in-Err-clause-open
returns-in-Err-clause-open g c = search rules

pub returns-in-Err-clause-same : goal.returns-in-Err-clause-same
returns-in-Err-clause-same g c = search rules

pub returns-in-Err-clause-room : goal.returns-in-Err-clause-room
returns-in-Err-clause-room g c = search rules

pub returns-in-Ok-clause-cause : goal.returns-in-Ok-clause-cause
returns-in-Ok-clause-cause g c = search rules

pub returns-in-Ok-clause-durable : goal.returns-in-Ok-clause-durable
returns-in-Ok-clause-durable g c = search rules

pub returns-in-Ok-clause-ended : goal.returns-in-Ok-clause-ended
returns-in-Ok-clause-ended g c = search rules

pub returns-in-Ok-clause-failed : goal.returns-in-Ok-clause-failed
returns-in-Ok-clause-failed g c = search rules

pub returns-in-Ok-clause-open : goal.returns-in-Ok-clause-open
returns-in-Ok-clause-open g c = search rules

pub returns-in-Ok-clause-same : goal.returns-in-Ok-clause-same
returns-in-Ok-clause-same g c = search rules

pub returns-in-Ok-clause-told : goal.returns-in-Ok-clause-told
returns-in-Ok-clause-told g c = search rules

pub returns-in_err-migrate_in-clause-crash : goal.returns-in_err-migrate_in-clause-crash
returns-in_err-migrate_in-clause-crash g c = search rules

pub returns-in_err-migrate_in-clause-current : goal.returns-in_err-migrate_in-clause-current
returns-in_err-migrate_in-clause-current g c = search rules

pub returns-in_err-migrate_in-clause-durable : goal.returns-in_err-migrate_in-clause-durable
returns-in_err-migrate_in-clause-durable g c = search rules

pub returns-in_err-migrate_in-clause-ended : goal.returns-in_err-migrate_in-clause-ended
returns-in_err-migrate_in-clause-ended g c = search rules

pub returns-in_err-migrate_in-clause-failed : goal.returns-in_err-migrate_in-clause-failed
returns-in_err-migrate_in-clause-failed g c = search rules

pub returns-in_err-migrate_in-clause-made : goal.returns-in_err-migrate_in-clause-made
returns-in_err-migrate_in-clause-made g c = search rules

pub returns-in_err-migrate_in-clause-open : goal.returns-in_err-migrate_in-clause-open
returns-in_err-migrate_in-clause-open g c = search rules

pub returns-in_err-migrate_in-clause-same : goal.returns-in_err-migrate_in-clause-same
returns-in_err-migrate_in-clause-same g c = search rules

pub returns-in_err-migrate_in-clause-told : goal.returns-in_err-migrate_in-clause-told
returns-in_err-migrate_in-clause-told g c = search rules

pub returns-then-matches-clause-cause : goal.returns-then-matches-clause-cause
returns-then-matches-clause-cause g c = search rules

pub returns-then-matches-clause-crash : goal.returns-then-matches-clause-crash
returns-then-matches-clause-crash g c = search rules

pub returns-then-matches-clause-current : goal.returns-then-matches-clause-current
returns-then-matches-clause-current g c = search rules

pub returns-then-matches-clause-durable : goal.returns-then-matches-clause-durable
returns-then-matches-clause-durable g c = search rules

pub returns-then-matches-clause-ended : goal.returns-then-matches-clause-ended
returns-then-matches-clause-ended g c = search rules

pub returns-then-matches-clause-failed : goal.returns-then-matches-clause-failed
returns-then-matches-clause-failed g c = search rules

pub returns-then-matches-clause-open : goal.returns-then-matches-clause-open
returns-then-matches-clause-open g c = search rules

pub returns-then-matches-clause-same : goal.returns-then-matches-clause-same
returns-then-matches-clause-same g c = search rules

pub returns-then-matches-clause-told : goal.returns-then-matches-clause-told
returns-then-matches-clause-told g c = search rules

pub returns-then-not-is_autocommit-clause-cause : goal.returns-then-not-is_autocommit-clause-cause
returns-then-not-is_autocommit-clause-cause g c = search rules

pub returns-then-not-is_autocommit-clause-crash : goal.returns-then-not-is_autocommit-clause-crash
returns-then-not-is_autocommit-clause-crash g c = search rules

pub returns-then-not-is_autocommit-clause-current : goal.returns-then-not-is_autocommit-clause-current
returns-then-not-is_autocommit-clause-current g c = search rules

pub returns-then-not-is_autocommit-clause-durable : goal.returns-then-not-is_autocommit-clause-durable
returns-then-not-is_autocommit-clause-durable g c = search rules

pub returns-then-not-is_autocommit-clause-ended : goal.returns-then-not-is_autocommit-clause-ended
returns-then-not-is_autocommit-clause-ended g c = search rules

pub returns-then-not-is_autocommit-clause-failed : goal.returns-then-not-is_autocommit-clause-failed
returns-then-not-is_autocommit-clause-failed g c = search rules

pub returns-then-not-is_autocommit-clause-made : goal.returns-then-not-is_autocommit-clause-made
returns-then-not-is_autocommit-clause-made g c = search rules

pub returns-then-not-is_autocommit-clause-open : goal.returns-then-not-is_autocommit-clause-open
returns-then-not-is_autocommit-clause-open g c = search rules

pub returns-then-not-is_autocommit-clause-same : goal.returns-then-not-is_autocommit-clause-same
returns-then-not-is_autocommit-clause-same g c = search rules

pub returns-then-not-is_autocommit-clause-told : goal.returns-then-not-is_autocommit-clause-told
returns-then-not-is_autocommit-clause-told g c = search rules
