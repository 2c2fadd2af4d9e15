use Rattle.std.proofs.Common.{Ok, Err, sym, subst, ◌∙◌}
use Rattle.sqlite.specs.Effect.{Database}
use Rattle.sqlite.specs.Held.{state}
use Rattle.ee_store_tables.proofs.Lemmas.Transactions.{clean_before}
use Rattle.ee_store_load.specs.declared.whole.AllRows.{AllRows}
use Rattle.ee_store_schema.specs.Faults.{IsExcused}
use Rattle.ee_store_schema.specs.Forms.{HoldsIn}
use Rattle.ee_store_load.specs.Shown.{answer_map}
use Rattle.std.specs.Prelude.{⊤}
use Rattle.ee_store_load.specs.Inner.Reading.{OnlyLoads}
use Rattle.ee_store_load.specs.Whole.{rows_with}
use Rattle.ee_store_load.specs.Inner.Whole.{HoldsPayments, HoldsRecords, HoldsExtensions}
use Rattle.ee_store_schema.proofs.Lemmas.Causes.{excused_then, then_survives}
use Rattle.ee_store_schema.proofs.Lemmas.Faults.{handed_on}
use Rattle.ee_store_load.proofs.ReadLemmas.{sound_after, still_form, loads_then, loads_made, loads_failed}
use Rattle.ee_store_load.proofs.WholeLemmas.{holds_all}
use Rattle.ee_store_load.proofs.whole.read_in.Goals as goal

pub returns-in_err-payments-clause-only_loads : goal.returns-in_err-payments-clause-only_loads
returns-in_err-payments-clause-only_loads g c =
    let at_0 = state g.S.Store c.args.conn.now in
    let at_1 = state g.S.Store c.read_register.new.conn in
    let at_2 = state g.S.Store c.read_payments.new.conn in
    loads_failed at_0 at_2 c.in_err-payments.field-0.0 c.from_residual-in_err-payments.result c.from_residual-in_err-payments.ensures.1
    (loads_then at_0 at_1 at_2 _ _ c.in_ok-register.ensures.only_loads c.in_err-payments.ensures.only_loads)

pub returns-in_err-records-clause-only_loads : goal.returns-in_err-records-clause-only_loads
returns-in_err-records-clause-only_loads g c =
    let at_0 = state g.S.Store c.args.conn.now in
    let at_1 = state g.S.Store c.read_register.new.conn in
    let at_2 = state g.S.Store c.read_payments.new.conn in
    let at_3 = state g.S.Store c.read_records.new.conn in
    loads_failed at_0 at_3 c.in_err-records.field-0.0 c.from_residual-in_err-records.result c.from_residual-in_err-records.ensures.1
    (loads_then at_0 at_1 at_3 _ _ c.in_ok-register.ensures.only_loads (loads_then at_1 at_2 at_3 _ _ c.in_ok-payments.ensures.only_loads c.in_err-records.ensures.only_loads))

pub returns-in_err-extensions-clause-only_loads : goal.returns-in_err-extensions-clause-only_loads
returns-in_err-extensions-clause-only_loads g c =
    let at_0 = state g.S.Store c.args.conn.now in
    let at_1 = state g.S.Store c.read_register.new.conn in
    let at_2 = state g.S.Store c.read_payments.new.conn in
    let at_3 = state g.S.Store c.read_records.new.conn in
    let at_4 = state g.S.Store c.read_extensions.new.conn in
    let last : OnlyLoads {X = ⊤} at_3 at_4 (Err c.in_err-extensions.field-0.0) = record {
      same = λ _. tt;
      kept = c.read_extensions.ensures.kept;
      outside = c.read_extensions.ensures.outside;
      other = c.in_err-extensions.ensures.other;
      crash = c.read_extensions.ensures.crash;
    } in
    loads_failed at_0 at_4 c.in_err-extensions.field-0.0 c.from_residual-in_err-extensions.result c.from_residual-in_err-extensions.ensures.1
    (loads_then at_0 at_1 at_4 _ _ c.in_ok-register.ensures.only_loads (loads_then at_1 at_2 at_4 _ _ c.in_ok-payments.ensures.only_loads (loads_then at_2 at_3 at_4 _ _ c.in_ok-records.ensures.only_loads last)))

pub returns-clause-only_loads : goal.returns-clause-only_loads
returns-clause-only_loads g c =
    let at_0 = state g.S.Store c.args.conn.now in
    let at_1 = state g.S.Store c.read_register.new.conn in
    let at_2 = state g.S.Store c.read_payments.new.conn in
    let at_3 = state g.S.Store c.read_records.new.conn in
    let at_4 = state g.S.Store c.read_extensions.new.conn in
    let last : OnlyLoads at_3 at_4 (Ok c.in_ok-extensions.extensions) = record {
      same = λ clean. c.in_ok-extensions.ensures.same clean (c.in_ok-records.ensures.only_loads.same (clean_before at_3 at_4 c.read_extensions.ensures.crash clean)).0.is_open;
      kept = c.read_extensions.ensures.kept;
      outside = c.read_extensions.ensures.outside;
      other = tt;
      crash = c.read_extensions.ensures.crash;
    } in
    loads_made at_0 at_4 _ _ (loads_then at_0 at_1 at_4 _ _ c.in_ok-register.ensures.only_loads (loads_then at_1 at_2 at_4 _ _ c.in_ok-payments.ensures.only_loads (loads_then at_2 at_3 at_4 _ _ c.in_ok-records.ensures.only_loads last)))

pub returns-clause-found : goal.returns-clause-found
returns-clause-found g c clean ours_0 sound_0 =
    let at_0 = state g.S.Store c.args.conn.now in
    let at_1 = state g.S.Store c.read_register.new.conn in
    let at_2 = state g.S.Store c.read_payments.new.conn in
    let at_3 = state g.S.Store c.read_records.new.conn in
    let at_4 = state g.S.Store c.read_extensions.new.conn in
    let clean_4 = clean in
    let clean_3 = clean_before at_3 at_4 c.read_extensions.ensures.crash clean_4 in
    let clean_2 = clean_before at_2 at_3 c.read_records.ensures.only_loads.crash clean_3 in
    let clean_1 = clean_before at_1 at_2 c.read_payments.ensures.only_loads.crash clean_2 in
    let same_1 = c.in_ok-register.ensures.only_loads.same clean_1 in
    let ours_1 = still_form c.args.form at_0 at_1 same_1 ours_0 in
    let sound_1 = sound_after at_0 at_1 same_1 sound_0 in
    let same_2 = c.in_ok-payments.ensures.only_loads.same clean_2 in
    let ours_2 = still_form c.args.form at_1 at_2 same_2 ours_1 in
    let sound_2 = sound_after at_1 at_2 same_2 sound_1 in
    let same_3 = c.in_ok-records.ensures.only_loads.same clean_3 in
    let ours_3 = still_form c.args.form at_2 at_3 same_3 ours_2 in
    let sound_3 = sound_after at_2 at_3 same_3 sound_2 in
    let back_2 = same_2.0.now_is ∙ same_1.0.now_is in
    let register = c.in_ok-register.ensures.found clean_1 (c.args.form, ours_0) sound_0 in
    let payments = subst (λ (d : Database). HoldsPayments d.trees c.in_ok-payments.payments) same_1.0.now_is (c.in_ok-payments.ensures.found clean_2 (c.args.form, ours_1) sound_1) in
    let records = subst (λ (d : Database). HoldsRecords g.P.RowTest.passes c.args.form d.trees c.in_ok-records.records) back_2 (c.in_ok-records.ensures.found clean_3 ours_2 sound_2) in
    let extensions = subst (λ (d : Database). HoldsExtensions c.args.form d.trees c.in_ok-extensions.extensions.items) (same_3.0.now_is ∙ back_2) (c.in_ok-extensions.ensures.found clean_4 ours_3 sound_3) in
    let all : AllRows
    = record {
      form = c.args.form;
      desk = c.in_ok-register.register.desk;
      rates = c.in_ok-register.register.rates;
      bonds = c.in_ok-register.register.bonds;
      tickets = c.in_ok-payments.payments.tickets;
      lines = c.in_ok-payments.payments.lines;
      batches = c.in_ok-records.records.batches;
      extensions = c.in_ok-extensions.extensions;
      replies = c.in_ok-records.records.replies;
    } in
    let kept = answer_map records.replies.kept in (
      rows_with kept all,
      holds_all c.args.form at_0.now.trees all kept
          (record { desk = register.desk; rates = register.rates; bonds = register.bonds; tickets = payments.tickets; paid = payments.lines; batches = records.batches }) records.replies.held extensions,
      record { kept = records.replies.kept; tested = records.replies.tested; are = λ i. rows_with kept all },
    )

pub returns-clause-listed : goal.returns-clause-listed
returns-clause-listed g c =
    let register = c.in_ok-register.ensures.listed in
    let payments = c.in_ok-payments.ensures.listed in
    let records = c.in_ok-records.ensures.listed in
    record {
      desk = register.desk;
      rates = register.rates;
      bonds = register.bonds;
      tickets = payments.tickets;
      lines = payments.lines;
      batches = records.batches;
      extensions = c.in_ok-extensions.ensures.listed;
      earlier = records.earlier;
    }

pub returns-in_err-register-clause-usable : goal.returns-in_err-register-clause-usable
returns-in_err-register-clause-usable g c clean =
    handed_on _ c.from_residual.result c.in_err-register.field-0.0 c.from_residual.ensures.1 (λ unusable ours_0 open_0 rows bonds written holds_0.
    let at_0 = state g.S.Store c.args.conn.now in
    let at_1 = state g.S.Store c.read_register.new.conn in
    let clean_1 = clean in
    c.in_err-register.ensures.usable clean_1 unusable (c.args.form, ours_0) open_0 c.args.form rows bonds holds_0)

pub returns-in_err-payments-clause-usable : goal.returns-in_err-payments-clause-usable
returns-in_err-payments-clause-usable g c clean =
    handed_on _ c.from_residual-in_err-payments.result c.in_err-payments.field-0.0 c.from_residual-in_err-payments.ensures.1 (λ unusable ours_0 open_0 rows bonds written holds_0.
    let at_0 = state g.S.Store c.args.conn.now in
    let at_1 = state g.S.Store c.read_register.new.conn in
    let at_2 = state g.S.Store c.read_payments.new.conn in
    let clean_2 = clean in
    let clean_1 = clean_before at_1 at_2 c.read_payments.ensures.only_loads.crash clean_2 in
    let same_1 = c.in_ok-register.ensures.only_loads.same clean_1 in
    let ours_1 = still_form c.args.form at_0 at_1 same_1 ours_0 in
    let holds_1 = subst (λ (d : Database). HoldsIn c.args.form d.trees rows) (sym same_1.0.now_is) holds_0 in
    c.in_err-payments.ensures.usable clean_2 unusable (c.args.form, ours_1) same_1.0.is_open c.args.form rows holds_1)

pub returns-in_err-records-clause-usable : goal.returns-in_err-records-clause-usable
returns-in_err-records-clause-usable g c clean =
    handed_on _ c.from_residual-in_err-records.result c.in_err-records.field-0.0 c.from_residual-in_err-records.ensures.1 (λ unusable ours_0 open_0 rows bonds written holds_0.
    let at_0 = state g.S.Store c.args.conn.now in
    let at_1 = state g.S.Store c.read_register.new.conn in
    let at_2 = state g.S.Store c.read_payments.new.conn in
    let at_3 = state g.S.Store c.read_records.new.conn in
    let clean_3 = clean in
    let clean_2 = clean_before at_2 at_3 c.read_records.ensures.only_loads.crash clean_3 in
    let clean_1 = clean_before at_1 at_2 c.read_payments.ensures.only_loads.crash clean_2 in
    let same_1 = c.in_ok-register.ensures.only_loads.same clean_1 in
    let ours_1 = still_form c.args.form at_0 at_1 same_1 ours_0 in
    let holds_1 = subst (λ (d : Database). HoldsIn c.args.form d.trees rows) (sym same_1.0.now_is) holds_0 in
    let same_2 = c.in_ok-payments.ensures.only_loads.same clean_2 in
    let ours_2 = still_form c.args.form at_1 at_2 same_2 ours_1 in
    let holds_2 = subst (λ (d : Database). HoldsIn c.args.form d.trees rows) (sym same_2.0.now_is) holds_1 in
    c.in_err-records.ensures.usable clean_3 unusable ours_2 same_2.0.is_open rows written holds_2)

pub returns-in_err-extensions-clause-usable : goal.returns-in_err-extensions-clause-usable
returns-in_err-extensions-clause-usable g c clean =
    handed_on _ c.from_residual-in_err-extensions.result c.in_err-extensions.field-0.0 c.from_residual-in_err-extensions.ensures.1 (λ unusable ours_0 open_0 rows bonds written holds_0.
    let at_0 = state g.S.Store c.args.conn.now in
    let at_1 = state g.S.Store c.read_register.new.conn in
    let at_2 = state g.S.Store c.read_payments.new.conn in
    let at_3 = state g.S.Store c.read_records.new.conn in
    let at_4 = state g.S.Store c.read_extensions.new.conn in
    let clean_4 = clean in
    let clean_3 = clean_before at_3 at_4 c.read_extensions.ensures.crash clean_4 in
    let clean_2 = clean_before at_2 at_3 c.read_records.ensures.only_loads.crash clean_3 in
    let clean_1 = clean_before at_1 at_2 c.read_payments.ensures.only_loads.crash clean_2 in
    let same_1 = c.in_ok-register.ensures.only_loads.same clean_1 in
    let ours_1 = still_form c.args.form at_0 at_1 same_1 ours_0 in
    let holds_1 = subst (λ (d : Database). HoldsIn c.args.form d.trees rows) (sym same_1.0.now_is) holds_0 in
    let same_2 = c.in_ok-payments.ensures.only_loads.same clean_2 in
    let ours_2 = still_form c.args.form at_1 at_2 same_2 ours_1 in
    let holds_2 = subst (λ (d : Database). HoldsIn c.args.form d.trees rows) (sym same_2.0.now_is) holds_1 in
    let same_3 = c.in_ok-records.ensures.only_loads.same clean_3 in
    let ours_3 = still_form c.args.form at_2 at_3 same_3 ours_2 in
    let holds_3 = subst (λ (d : Database). HoldsIn c.args.form d.trees rows) (sym same_3.0.now_is) holds_2 in
    c.in_err-extensions.ensures.usable clean_4 unusable ours_3 same_3.0.is_open rows holds_3)

pub returns-in_err-register-clause-cause : goal.returns-in_err-register-clause-cause
returns-in_err-register-clause-cause g c clean ours_0 limit =
    let at_0 = state g.S.Store c.args.conn.now in
    let at_1 = state g.S.Store c.read_register.new.conn in
    handed_on (IsExcused at_0 at_1) c.from_residual.result c.in_err-register.field-0.0 c.from_residual.ensures.1 (c.in_err-register.ensures.cause clean (c.args.form, ours_0) limit)

pub returns-in_err-payments-clause-cause : goal.returns-in_err-payments-clause-cause
returns-in_err-payments-clause-cause g c clean ours_0 limit =
    let at_0 = state g.S.Store c.args.conn.now in
    let at_1 = state g.S.Store c.read_register.new.conn in
    let at_2 = state g.S.Store c.read_payments.new.conn in
    let clean_2 = clean in
    let clean_1 = clean_before at_1 at_2 c.read_payments.ensures.only_loads.crash clean_2 in
    let before_1 = c.read_register.ensures.only_loads.crash in
    let ours_1 = still_form c.args.form at_0 at_1 (c.in_ok-register.ensures.only_loads.same clean_1) ours_0 in
    handed_on (IsExcused at_0 at_2) c.from_residual-in_err-payments.result c.in_err-payments.field-0.0 c.from_residual-in_err-payments.ensures.1
    (excused_then at_0 at_1 at_2 before_1 c.read_payments.ensures.only_loads.crash clean _ (c.in_err-payments.ensures.cause clean (c.args.form, ours_1) (before_1.limit ∙ limit)))

pub returns-in_err-records-clause-cause : goal.returns-in_err-records-clause-cause
returns-in_err-records-clause-cause g c clean ours_0 limit =
    let at_0 = state g.S.Store c.args.conn.now in
    let at_1 = state g.S.Store c.read_register.new.conn in
    let at_2 = state g.S.Store c.read_payments.new.conn in
    let at_3 = state g.S.Store c.read_records.new.conn in
    let clean_3 = clean in
    let clean_2 = clean_before at_2 at_3 c.read_records.ensures.only_loads.crash clean_3 in
    let clean_1 = clean_before at_1 at_2 c.read_payments.ensures.only_loads.crash clean_2 in
    let before_1 = c.read_register.ensures.only_loads.crash in
    let before_2 = then_survives at_0 at_1 at_2 before_1 c.read_payments.ensures.only_loads.crash in
    let ours_1 = still_form c.args.form at_0 at_1 (c.in_ok-register.ensures.only_loads.same clean_1) ours_0 in
    let ours_2 = still_form c.args.form at_1 at_2 (c.in_ok-payments.ensures.only_loads.same clean_2) ours_1 in
    handed_on (IsExcused at_0 at_3) c.from_residual-in_err-records.result c.in_err-records.field-0.0 c.from_residual-in_err-records.ensures.1
    (excused_then at_0 at_2 at_3 before_2 c.read_records.ensures.only_loads.crash clean _ (c.in_err-records.ensures.cause clean ours_2 (before_2.limit ∙ limit)))

pub returns-in_err-extensions-clause-cause : goal.returns-in_err-extensions-clause-cause
returns-in_err-extensions-clause-cause g c clean ours_0 limit =
    let at_0 = state g.S.Store c.args.conn.now in
    let at_1 = state g.S.Store c.read_register.new.conn in
    let at_2 = state g.S.Store c.read_payments.new.conn in
    let at_3 = state g.S.Store c.read_records.new.conn in
    let at_4 = state g.S.Store c.read_extensions.new.conn in
    let clean_4 = clean in
    let clean_3 = clean_before at_3 at_4 c.read_extensions.ensures.crash clean_4 in
    let clean_2 = clean_before at_2 at_3 c.read_records.ensures.only_loads.crash clean_3 in
    let clean_1 = clean_before at_1 at_2 c.read_payments.ensures.only_loads.crash clean_2 in
    let before_1 = c.read_register.ensures.only_loads.crash in
    let before_2 = then_survives at_0 at_1 at_2 before_1 c.read_payments.ensures.only_loads.crash in
    let before_3 = then_survives at_0 at_2 at_3 before_2 c.read_records.ensures.only_loads.crash in
    let ours_1 = still_form c.args.form at_0 at_1 (c.in_ok-register.ensures.only_loads.same clean_1) ours_0 in
    let ours_2 = still_form c.args.form at_1 at_2 (c.in_ok-payments.ensures.only_loads.same clean_2) ours_1 in
    let ours_3 = still_form c.args.form at_2 at_3 (c.in_ok-records.ensures.only_loads.same clean_3) ours_2 in
    handed_on (IsExcused at_0 at_4) c.from_residual-in_err-extensions.result c.in_err-extensions.field-0.0 c.from_residual-in_err-extensions.ensures.1
    (excused_then at_0 at_3 at_4 before_3 c.read_extensions.ensures.crash clean _ (c.in_err-extensions.ensures.cause clean ours_3 (before_3.limit ∙ limit)))
