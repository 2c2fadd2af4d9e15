use Rattle.std.proofs.Common.{rules, ◌≡◌, ◌≢◌, ◌∙◌, Some, slice_get, subst}
use Rattle.std.specs.FinMap.{get}
use Rattle.sqlite.specs.Held.{state}
use Rattle.ee_store_schema.proofs.Lemmas.Faults.{handed_on}
use Rattle.ee_store_load.specs.Opening.{IsTold}
use Rattle.ee_store_load.proofs.VersionLemmas.{other_named}
use Rattle.ee_store_load.proofs.version.known_version.Goals as goal

pub returns-in_err-rows-clause-told : goal.returns-in_err-rows-clause-told
returns-in_err-rows-clause-told g c clean =
    handed_on (IsTold (state g.S.Store c.args.conn.now)) c.from_residual.result c.in_err-rows.field-0.0 c.from_residual.ensures.1 (record {
      shown = λ told. absurd (c.in_err-rows.ensures.other told);
      other = λ told. absurd (c.in_err-rows.ensures.other told);
      tested = λ told rows sees. absurd (c.in_err-rows.ensures.asked clean rows sees told);
    })

pub returns-clause-told : goal.returns-clause-told
returns-clause-told g c clean =
    let version = c.in_ok-version.version in
    let unknown : (version ≢ 1) × (version ≢ 2) = search rules in
    let first = c.in_ok-version.ensures.first in
    let shown : slice_get c.in_ok-rows.rows.items 0 ≡ Some first.0 = subst (λ rows. slice_get rows 0 ≡ Some first.0) c.deref.ensures.value first.1 in
    record {
      shown = λ told. record { row = first.0; first = c.in_ok-rows.ensures.shown clean first.0 shown; version = version; named = first.2; unknown = unknown };
      other = λ told rows sees. other_named rows version (c.in_ok-version.ensures.found (get rows 1) (c.deref.ensures.value ∙ c.in_ok-rows.ensures.any clean rows sees)) unknown;
      tested = λ told. absurd (cc);
    }
