use Rattle.std.proofs.Common.{sym, subst, ◌∙◌}
use Rattle.sqlite.specs.Effect.{Database}
use Rattle.sqlite.specs.Held.{state}
use Rattle.ee_store_tables.proofs.Lemmas.Transactions.{clean_before}
use Rattle.ee_store_load.specs.Inner.Whole.{HoldsTested}
use Rattle.ee_store_load.proofs.WholeLemmas.{holds_kept}
use Rattle.ee_store_schema.specs.Forms.{HoldsIn}
use Rattle.ee_store_schema.proofs.Lemmas.Forms.{common}
use Rattle.ee_store_schema.proofs.Lemmas.Faults.{handed_on}
use Rattle.ee_store_load.proofs.ReadLemmas.{sound_after, still_form, loads_then, loads_made, loads_failed}
use Rattle.ee_store_schema.specs.Faults.{IsExcused}
use Rattle.ee_store_schema.proofs.Lemmas.Causes.{excused_then}
use Rattle.ee_store_load.proofs.whole.read_records.Goals as goal

pub returns-in_err-replies-clause-only_loads : goal.returns-in_err-replies-clause-only_loads
returns-in_err-replies-clause-only_loads g c =
    let at_0 = state g.S.Store c.args.conn.now in
    let at_1 = state g.S.Store c.read_batches.new.conn in
    let at_2 = state g.S.Store c.test_answers.new.conn in
    loads_failed at_0 at_2 c.in_err-replies.field-0.0 c.from_residual-in_err-replies.result c.from_residual-in_err-replies.ensures.1
    (loads_then at_0 at_1 at_2 _ _ c.in_ok-batches.ensures.only_loads c.in_err-replies.ensures.only_loads)

pub returns-clause-only_loads : goal.returns-clause-only_loads
returns-clause-only_loads g c =
    let at_0 = state g.S.Store c.args.conn.now in
    let at_1 = state g.S.Store c.read_batches.new.conn in
    let at_2 = state g.S.Store c.test_answers.new.conn in
    loads_made at_0 at_2 _ _ (loads_then at_0 at_1 at_2 _ _ c.in_ok-batches.ensures.only_loads c.in_ok-replies.ensures.only_loads)

pub returns-clause-found : goal.returns-clause-found
returns-clause-found g c clean ours sound =
    let old = state g.S.Store c.args.conn.now in
    let at_1 = state g.S.Store c.read_batches.new.conn in
    let at_2 = state g.S.Store c.test_answers.new.conn in
    let clean_2 = clean in
    let clean_1 = clean_before at_1 at_2 c.test_answers.ensures.only_loads.crash clean_2 in
    let same_1 = c.in_ok-batches.ensures.only_loads.same clean_1 in
    let ours_1 = still_form c.args.form old at_1 same_1 ours in
    let sound_1 = sound_after old at_1 same_1 sound in
    let batches_held = c.in_ok-batches.ensures.found clean_1 (c.args.form, ours) sound in
    let replies_held = subst (λ (d : Database). HoldsTested g.P.RowTest.passes c.args.form d.trees c.in_ok-replies.replies) (same_1.0.now_is) (c.in_ok-replies.ensures.found clean_2 ours_1 sound_1) in
    record { batches = batches_held; replies = replies_held }

pub returns-clause-listed : goal.returns-clause-listed
returns-clause-listed g c = record { batches = c.in_ok-batches.ensures.listed; earlier = c.in_ok-replies.ensures.listed }

pub returns-in_err-batches-clause-usable : goal.returns-in_err-batches-clause-usable
returns-in_err-batches-clause-usable g c clean =
    handed_on _ c.from_residual.result c.in_err-batches.field-0.0 c.from_residual.ensures.1 (λ unusable ours_0 open_0 rows written holds_0.
    let at_0 = state g.S.Store c.args.conn.now in
    let at_1 = state g.S.Store c.read_batches.new.conn in
    let clean_1 = clean in
    c.in_err-batches.ensures.usable clean_1 unusable (c.args.form, ours_0) open_0 rows.batches (common c.args.form at_0.now.trees rows holds_0).batches)

pub returns-in_err-replies-clause-usable : goal.returns-in_err-replies-clause-usable
returns-in_err-replies-clause-usable g c clean =
    handed_on _ c.from_residual-in_err-replies.result c.in_err-replies.field-0.0 c.from_residual-in_err-replies.ensures.1 (λ unusable ours_0 open_0 rows written holds_0.
    let at_0 = state g.S.Store c.args.conn.now in
    let at_1 = state g.S.Store c.read_batches.new.conn in
    let at_2 = state g.S.Store c.test_answers.new.conn in
    let clean_2 = clean in
    let clean_1 = clean_before at_1 at_2 c.test_answers.ensures.only_loads.crash clean_2 in
    let same_1 = c.in_ok-batches.ensures.only_loads.same clean_1 in
    let ours_1 = still_form c.args.form at_0 at_1 same_1 ours_0 in
    let open_1 = same_1.0.is_open in
    let holds_1 = subst (λ (d : Database). HoldsIn c.args.form d.trees rows) (sym same_1.0.now_is) holds_0 in
    c.in_err-replies.ensures.usable clean_2 unusable ours_1 open_1 rows.answers written (holds_kept c.args.form at_1.now.trees rows holds_1))

pub returns-in_err-batches-clause-cause : goal.returns-in_err-batches-clause-cause
returns-in_err-batches-clause-cause g c clean ours_0 limit =
    let at_0 = state g.S.Store c.args.conn.now in
    let at_1 = state g.S.Store c.read_batches.new.conn in
    handed_on (IsExcused at_0 at_1) c.from_residual.result c.in_err-batches.field-0.0 c.from_residual.ensures.1 (c.in_err-batches.ensures.cause clean (c.args.form, ours_0) limit)

pub returns-in_err-replies-clause-cause : goal.returns-in_err-replies-clause-cause
returns-in_err-replies-clause-cause g c clean ours_0 limit =
    let at_0 = state g.S.Store c.args.conn.now in
    let at_1 = state g.S.Store c.read_batches.new.conn in
    let at_2 = state g.S.Store c.test_answers.new.conn in
    let clean_2 = clean in
    let clean_1 = clean_before at_1 at_2 c.test_answers.ensures.only_loads.crash clean_2 in
    let before_1 = c.read_batches.ensures.only_loads.crash in
    let ours_1 = still_form c.args.form at_0 at_1 (c.in_ok-batches.ensures.only_loads.same clean_1) ours_0 in
    handed_on (IsExcused at_0 at_2) c.from_residual-in_err-replies.result c.in_err-replies.field-0.0 c.from_residual-in_err-replies.ensures.1
    (excused_then at_0 at_1 at_2 before_1 c.test_answers.ensures.only_loads.crash clean _ (c.in_err-replies.ensures.cause clean ours_1 (before_1.limit ∙ limit)))
