use Rattle.std.proofs.Common.{sym, subst, ◌∙◌}
use Rattle.sqlite.specs.Held.{state}
use Rattle.std.proofs.lemmas.Result.{on_ok_weaker}
use Rattle.std.proofs.lemmas.Bool.{not-true}
use Rattle.ee_store_load.specs.Whole.{AreRead}
use Rattle.ee_store_schema.proofs.Lemmas.Faults.{each_fault}
use Rattle.ee_store_load.proofs.ReadLemmas.{each_ok, under_ok, ok_then}
use Rattle.ee_store_load.proofs.WholeLemmas.{are_in_order, has_ours, sound_now, sees_what_it_has, are_those, has_read}
use Rattle.ee_store_schema.proofs.Lemmas.Forms.{had_form}
use Rattle.ee_store_load.proofs.whole.read_all.Goals as goal

pub returns-clause-found : goal.returns-clause-found
returns-clause-found g c clean =
    let old = state g.S.Store c.args.conn.now in
    let new = state g.S.Store c.read_of_version.new.conn in
    let settled = c.is_autocommit.ensures.settled c.if-not-is_autocommit.false in
    let sound = sound_now old c.schema-schema.ensures.live in
    under_ok _ c.read_of_version.result (λ ours. ok_then c.read_of_version.result (λ all it same. (it.0, has_read c.args.form old settled new same it.0 ours it.1, it.2))
    (c.read_of_version.ensures.found clean (has_ours c.args.form old settled ours) sound) (c.read_of_version.ensures.same clean))

pub returns-clause-those : goal.returns-clause-those
returns-clause-those g c clean =
    let old = state g.S.Store c.args.conn.now in
    let settled = c.is_autocommit.ensures.settled c.if-not-is_autocommit.false in
    let sound = sound_now old c.schema-schema.ensures.live in
    each_ok c.read_of_version.result (λ all it rows has is_open.
    let found = it (had_form c.args.form old rows has) in
    subst (AreRead g.P.RowTest.passes all) (are_those c.args.form old settled found.0 rows found.1 has is_open) found.2)
    (under_ok _ c.read_of_version.result (λ ours. c.read_of_version.ensures.found clean (has_ours c.args.form old settled ours) sound))

pub returns-clause-order : goal.returns-clause-order
returns-clause-order g c = each_ok c.read_of_version.result are_in_order c.read_of_version.ensures.listed

pub returns-clause-first : goal.returns-clause-first
returns-clause-first g c clean =
    let old = state g.S.Store c.args.conn.now in
    let settled = c.is_autocommit.ensures.settled c.if-not-is_autocommit.false in
    on_ok_weaker c.read_of_version.result (λ first rows has. first rows (sees_what_it_has c.args.form old settled rows has)) (c.read_of_version.ensures.first clean)

pub returns-clause-version : goal.returns-clause-version
returns-clause-version g c clean =
    let old = state g.S.Store c.args.conn.now in
    let settled = c.is_autocommit.ensures.settled c.if-not-is_autocommit.false in
    each_fault c.read_of_version.result (λ e other is rows has. other is rows (sees_what_it_has c.args.form old settled rows has)) (c.read_of_version.ensures.other clean)

pub returns-clause-tested : goal.returns-clause-tested
returns-clause-tested g c clean =
    let old = state g.S.Store c.args.conn.now in
    let settled = c.is_autocommit.ensures.settled c.if-not-is_autocommit.false in
    each_fault c.read_of_version.result (λ e tested is rows has is_open. tested is (has_ours c.args.form old settled (had_form c.args.form old rows has)) is_open rows (sees_what_it_has c.args.form old settled rows has)) (c.read_of_version.ensures.tested clean)

pub returns-clause-usable : goal.returns-clause-usable
returns-clause-usable g c clean =
    let old = state g.S.Store c.args.conn.now in
    let settled = c.is_autocommit.ensures.settled c.if-not-is_autocommit.false in
    each_fault c.read_of_version.result (λ e usable is rows has is_open. usable is (has_ours c.args.form old settled (had_form c.args.form old rows has)) is_open rows (sees_what_it_has c.args.form old settled rows has)) (c.read_of_version.ensures.usable clean)

pub returns-clause-open : goal.returns-clause-open
returns-clause-open g c clean = on_ok_weaker c.read_of_version.result (λ same. (same.0.was_open, same.0.is_open)) (c.read_of_version.ensures.same clean)

pub returns-clause-cause : goal.returns-clause-cause
returns-clause-cause g c clean starts limit =
    let old = state g.S.Store c.args.conn.now in
    let settled = c.is_autocommit.ensures.settled c.if-not-is_autocommit.false in
    c.read_of_version.ensures.cause clean (has_ours c.args.form old settled starts.1) limit

pub returns-clause-ended : goal.returns-clause-ended
returns-clause-ended g c clean =
    on_ok_weaker c.read_of_version.result (λ same. same.0.mode ∙ not-true (state g.S.Store c.args.conn.now).in_transaction (sym c.is_autocommit.ensures.value ∙ c.if-not-is_autocommit.false)) (c.read_of_version.ensures.same clean)
