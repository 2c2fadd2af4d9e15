use Rattle.std.proofs.Common.{◌≢◌, IsTrue, inl, sym, subst, nat_cmp}
use Rattle.std.specs.FinMap.{FinMap}
use Rattle.ee_store_tables.specs.Rows.{DeskRow}
use Rattle.sqlite.specs.Listing.{understood}
use Rattle.sqlite.proofs.Callers.{IsPlain}
use Rattle.sqlite.proofs.InsideLemmas.{unchanged_keeps}
use Rattle.sqlite.specs.Held.{state}
use Rattle.ee_store_schema.specs.Inner.Forms.{HasOurTables}
use Rattle.ee_store_schema.proofs.Lemmas.Forms.{sees_tables}
use Rattle.ee_store_schema.specs.Inner.Asking.{IsNeverRefused}
use Rattle.ee_store_schema.specs.declared.faults.OpenFault.TheVariants.{Unusable}
use Rattle.ee_store_tables.proofs.Lemmas.Transactions.{query_keeps, shown_open}
use Rattle.ee_store_load.proofs.AskLemmas.{only_version, commits_nothing, shown_same}
use Rattle.ee_store_schema.specs.Faults.{IsExcused}
use Rattle.ee_store_schema.proofs.Lemmas.Faults.{query_usable, told_as}
use Rattle.ee_store_schema.proofs.Lemmas.Causes.{excused_if_open, query_excused}
use Rattle.ee_store_load.proofs.NeverLemmas.{never_version}
use Rattle.ee_store_load.specs.Opening.{version_text, given_id, SeesDesk}
use Rattle.ee_store_load.proofs.VersionLemmas.{version_plain, shows_version, plain_there, shows_desk, first_shown}
use Rattle.ee_store_load.proofs.version.version_rows.Goals as goal

pub returns-in_err-rows-clause-kept : goal.returns-in_err-rows-clause-kept
returns-in_err-rows-clause-kept g c clean =
    let old = state g.S.Store c.args.conn.now in
    let new = state g.S.Store c.query_all.new.self in
    query_keeps old new version_text given_id _ (inl (c.in_err-rows.ensures.err clean))

pub returns-in_err-rows-clause-crash : goal.returns-in_err-rows-clause-crash
returns-in_err-rows-clause-crash g c = commits_nothing version_text only_version given_id _ _ c.query_all.ensures.survives

pub returns-clause-crash : goal.returns-clause-crash
returns-clause-crash g c = commits_nothing version_text only_version given_id _ _ c.query_all.ensures.survives

pub returns-in_err-rows-clause-usable : goal.returns-in_err-rows-clause-usable
returns-in_err-rows-clause-usable g c clean =
    let old = state g.S.Store c.args.conn.now in
    let new = state g.S.Store c.query_all.new.self in
    told_as (λ e. HasOurTables old → IsTrue old.is_open → e ≢ Unusable) c.from_residual.result c.in_err-rows.field-0.0 c.from_residual.ensures.1 (λ ours is_open.
    query_usable old new version_text given_id _ (subst (λ s. IsPlain (understood s version_text)) (sym (sees_tables ours.0 old ours.1 is_open)) (version_plain ours.0 old.now.schema)) (inl (c.in_err-rows.ensures.err clean)))

pub returns-clause-found : goal.returns-clause-found
returns-clause-found g c clean form rows sees =
    let old = state g.S.Store c.args.conn.now in
    let new = state g.S.Store c.query_all.new.self in
    let shown = c.in_ok-rows.ensures.ok clean in
    let it = sees (shown_open old new version_text given_id c.in_ok-rows.rows.items shown) in
    shows_version form old new rows c.in_ok-rows.rows.items it.0 it.1 shown

pub returns-clause-same : goal.returns-clause-same
returns-clause-same g c clean =
    let old = state g.S.Store c.args.conn.now in
    let new = state g.S.Store c.query_all.new.self in
    shown_same version_text only_version given_id old new c.in_ok-rows.rows.items (c.in_ok-rows.ensures.ok clean)

pub returns-clause-kept : goal.returns-clause-kept
returns-clause-kept g c clean =
    let old = state g.S.Store c.args.conn.now in
    let new = state g.S.Store c.query_all.new.self in
    unchanged_keeps old new (inl (shown_same version_text only_version given_id old new c.in_ok-rows.rows.items (c.in_ok-rows.ensures.ok clean)))

pub returns-in_err-rows-clause-cause : goal.returns-in_err-rows-clause-cause
returns-in_err-rows-clause-cause g c clean ours limit =
    let old = state g.S.Store c.args.conn.now in
    let new = state g.S.Store c.query_all.new.self in
    told_as (IsExcused old new) c.from_residual.result c.in_err-rows.field-0.0 c.from_residual.ensures.1 (excused_if_open old new _ (λ is_open.
    query_excused old new version_text given_id (subst (λ s. IsNeverRefused s version_text given_id) (sym (sees_tables ours.0 old ours.1 is_open)) (never_version ours.0 old.now.schema)) limit _ (c.in_err-rows.ensures.err clean)))

pub returns-clause-any : goal.returns-clause-any
returns-clause-any g c clean desk sees =
    let old = state g.S.Store c.args.conn.now in
    let new = state g.S.Store c.query_all.new.self in
    shows_desk old desk sees new c.in_ok-rows.rows.items (c.in_ok-rows.ensures.ok clean)

pub returns-clause-shown : goal.returns-clause-shown
returns-clause-shown g c clean row first =
    let old = state g.S.Store c.args.conn.now in
    let new = state g.S.Store c.query_all.new.self in
    first_shown old new c.in_ok-rows.rows.items row first (c.in_ok-rows.ensures.ok clean)

pub returns-in_err-rows-clause-asked : goal.returns-in_err-rows-clause-asked
returns-in_err-rows-clause-asked g c clean =
    let old = state g.S.Store c.args.conn.now in
    let new = state g.S.Store c.query_all.new.self in
    told_as (λ e. (desk : FinMap nat_cmp DeskRow) → SeesDesk old desk → e ≢ Unusable) c.from_residual.result c.in_err-rows.field-0.0 c.from_residual.ensures.1 (λ desk sees.
    query_usable old new version_text given_id _ (plain_there old desk sees) (inl (c.in_err-rows.ensures.err clean)))
