use Rattle.std.proofs.Common.{sym, subst, ◌∙◌}
use Rattle.sqlite.specs.Effect.{Database}
use Rattle.sqlite.specs.Held.{state}
use Rattle.sqlite.proofs.InsideLemmas.{keeps_then}
use Rattle.ee_store_schema.specs.Forms.{HoldsIn}
use Rattle.ee_store_tables.proofs.Lemmas.Transactions.{clean_before}
use Rattle.ee_store_schema.proofs.Lemmas.Faults.{handed_on, each_fault}
use Rattle.ee_store_load.proofs.ReadLemmas.{each_ok, sound_after, still_form}
use Rattle.ee_store_load.proofs.VersionLemmas.{one_version, of_form, names_form, known_is_no_other}
use Rattle.ee_store_schema.specs.Faults.{IsExcused}
use Rattle.ee_store_schema.proofs.Lemmas.Causes.{excused_then}
use Rattle.ee_store_load.proofs.whole.read_of_version.Goals as goal

pub returns-in_err-version-clause-other : goal.returns-in_err-version-clause-other
returns-in_err-version-clause-other g c clean =
    handed_on _ c.from_residual.result c.in_err-version.field-0.0 c.from_residual.ensures.1 (λ other rows sees. c.in_err-version.ensures.other clean other c.args.form rows sees)

pub returns-in_err-version-clause-usable : goal.returns-in_err-version-clause-usable
returns-in_err-version-clause-usable g c clean =
    handed_on _ c.from_residual.result c.in_err-version.field-0.0 c.from_residual.ensures.1 (λ unusable ours is_open rows sees readable.
    let e = sym (c.in_err-version.ensures.usable clean unusable c.args.form rows (c.args.form, ours) sees is_open) ∙ readable.desk.1 in
    cc)

pub returns-in_err-version-clause-tested : goal.returns-in_err-version-clause-tested
returns-in_err-version-clause-tested g c clean =
    handed_on _ c.from_residual.result c.in_err-version.field-0.0 c.from_residual.ensures.1 (λ unusable ours is_open rows sees other.
    let e = sym (c.in_err-version.ensures.usable clean unusable c.args.form rows (c.args.form, ours) sees is_open) ∙ other.1 in
    cc)

-- ---- it is of the version of another form

pub returns-then-version-clause-usable : goal.returns-then-version-clause-usable
returns-then-version-clause-usable g c clean told ours is_open rows sees readable =
    absurd (c.if-version.true (names_form c.args.form c.in_ok-version.version rows (c.in_ok-version.ensures.named clean c.args.form rows sees) readable.desk ∙ sym c.version.ensures))

pub returns-then-version-clause-tested : goal.returns-then-version-clause-tested
returns-then-version-clause-tested g c clean told ours is_open rows sees =
    known_is_no_other c.in_ok-version.version rows (c.in_ok-version.ensures.named clean c.args.form rows sees) c.in_ok-version.ensures.known

-- ---- the tables are read

pub returns-clause-found : goal.returns-clause-found
returns-clause-found g c clean ours sound =
    let old = state g.S.Store c.args.conn.now in
    let middle = state g.S.Store c.known_version.new.conn in
    let new = state g.S.Store c.read_in.new.conn in
    let same = c.in_ok-version.ensures.same (clean_before middle new c.read_in.ensures.only_loads.crash clean) in
    each_ok c.read_in.result (λ all it. (it.0, subst (λ (d : Database). HoldsIn c.args.form d.trees it.0) same.0.now_is it.1, it.2))
    (c.read_in.ensures.found clean (still_form c.args.form old middle same ours) (sound_after old middle same sound))

pub returns-clause-usable : goal.returns-clause-usable
returns-clause-usable g c clean =
    let old = state g.S.Store c.args.conn.now in
    let middle = state g.S.Store c.known_version.new.conn in
    let new = state g.S.Store c.read_in.new.conn in
    let before = clean_before middle new c.read_in.ensures.only_loads.crash clean in
    each_fault c.read_in.result (λ e usable unusable ours is_open rows sees readable.
    let same = c.in_ok-version.ensures.same before in
    usable unusable (still_form c.args.form old middle same ours) same.0.is_open rows readable.bonds readable.texts (subst (λ (d : Database). HoldsIn c.args.form d.trees rows) (sym same.0.now_is) (sees is_open).1)) (c.read_in.ensures.usable clean)

pub returns-clause-tested : goal.returns-clause-tested
returns-clause-tested g c clean =
    let middle = state g.S.Store c.known_version.new.conn in
    let new = state g.S.Store c.read_in.new.conn in
    let before = clean_before middle new c.read_in.ensures.only_loads.crash clean in
    each_fault c.read_in.result (λ e usable unusable ours is_open rows sees other. one_version c.args.form rows (of_form c.args.form c.in_ok-version.version rows (c.in_ok-version.ensures.named before c.args.form rows sees) (c.if-version.false ∙ c.version.ensures)) other) (c.read_in.ensures.usable clean)

pub returns-clause-kept : goal.returns-clause-kept
returns-clause-kept g c clean =
    let old = state g.S.Store c.args.conn.now in
    let middle = state g.S.Store c.known_version.new.conn in
    let new = state g.S.Store c.read_in.new.conn in
    let before = clean_before middle new c.read_in.ensures.only_loads.crash clean in
    keeps_then old middle new (c.known_version.ensures.kept before) (c.read_in.ensures.only_loads.kept clean)

pub returns-in_err-version-clause-cause : goal.returns-in_err-version-clause-cause
returns-in_err-version-clause-cause g c clean ours limit =
    let old = state g.S.Store c.args.conn.now in
    let new = state g.S.Store c.known_version.new.conn in
    handed_on (IsExcused old new) c.from_residual.result c.in_err-version.field-0.0 c.from_residual.ensures.1 (c.in_err-version.ensures.cause clean (c.args.form, ours) limit)

pub returns-clause-cause : goal.returns-clause-cause
returns-clause-cause g c clean ours limit =
    let old = state g.S.Store c.args.conn.now in
    let middle = state g.S.Store c.known_version.new.conn in
    let new = state g.S.Store c.read_in.new.conn in
    let first = c.known_version.ensures.crash in
    let second = c.read_in.ensures.only_loads.crash in
    let still = still_form c.args.form old middle (c.in_ok-version.ensures.same (clean_before middle new second clean)) ours in
    each_fault c.read_in.result (excused_then old middle new first second clean) (c.read_in.ensures.cause clean still (first.limit ∙ limit))
