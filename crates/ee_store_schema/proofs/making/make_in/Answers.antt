use Rattle.std.proofs.Common.{◌∙◌}
use Rattle.sqlite.specs.Held.{state}
use Rattle.ee_store_tables.proofs.Lemmas.Transactions.{clean_before}
use Rattle.std.proofs.lemmas.Result.{on_ok_weaker}
use Rattle.ee_store_schema.specs.Faults.{IsExcused}
use Rattle.ee_store_schema.proofs.Lemmas.Causes.{excused_then, then_survives}
use Rattle.ee_store_schema.proofs.Lemmas.Faults.{handed_on, each_fault}
use Rattle.ee_store_schema.proofs.making.make_in.Goals as goal

pub returns-clause-added : goal.returns-clause-added
returns-clause-added g c clean =
    let at_1 = state g.S.Store c.make_register.new.tx.conn.now in
    let at_2 = state g.S.Store c.make_payments.new.tx.conn.now in
    let at_3 = state g.S.Store c.make_records.new.tx.conn.now in
    let at_4 = state g.S.Store c.make_current.new.tx.conn.now in
    let clean_4 = clean in
    let clean_3 = clean_before at_3 at_4 c.make_current.ensures.makes_inside.crash clean_4 in
    let clean_2 = clean_before at_2 at_3 c.make_records.ensures.makes_inside.crash clean_3 in
    let clean_1 = clean_before at_1 at_2 c.make_payments.ensures.makes_inside.crash clean_2 in
    on_ok_weaker c.make_current.result (λ added sees_0.
    let sees_1 = c.in_ok-make_register.ensures.added clean_1 sees_0 in
    let sees_2 = c.in_ok-make_payments.ensures.added clean_2 sees_1 in
    let sees_3 = c.in_ok-make_records.ensures.added clean_3 sees_2 in
    added sees_3) (c.make_current.ensures.added clean)

pub returns-clause-sound : goal.returns-clause-sound
returns-clause-sound g c clean =
    let at_1 = state g.S.Store c.make_register.new.tx.conn.now in
    let at_2 = state g.S.Store c.make_payments.new.tx.conn.now in
    let at_3 = state g.S.Store c.make_records.new.tx.conn.now in
    let at_4 = state g.S.Store c.make_current.new.tx.conn.now in
    let clean_4 = clean in
    let clean_3 = clean_before at_3 at_4 c.make_current.ensures.makes_inside.crash clean_4 in
    let clean_2 = clean_before at_2 at_3 c.make_records.ensures.makes_inside.crash clean_3 in
    let clean_1 = clean_before at_1 at_2 c.make_payments.ensures.makes_inside.crash clean_2 in
    on_ok_weaker c.make_current.result (λ sound sees_0.
    let sees_1 = c.in_ok-make_register.ensures.added clean_1 sees_0 in
    let sees_2 = c.in_ok-make_payments.ensures.added clean_2 sees_1 in
    let sees_3 = c.in_ok-make_records.ensures.added clean_3 sees_2 in
    sound sees_3) (c.make_current.ensures.sound clean)

pub returns-in_err-make_register-clause-usable : goal.returns-in_err-make_register-clause-usable
returns-in_err-make_register-clause-usable g c clean =
    let clean_1 = clean in
    handed_on _ c.from_residual.result c.in_err-make_register.field-0.0 c.from_residual.ensures.1 (λ sees_0 open_0.
    c.in_err-make_register.ensures.usable clean_1 sees_0 open_0)

pub returns-in_err-make_payments-clause-usable : goal.returns-in_err-make_payments-clause-usable
returns-in_err-make_payments-clause-usable g c clean =
    let at_1 = state g.S.Store c.make_register.new.tx.conn.now in
    let at_2 = state g.S.Store c.make_payments.new.tx.conn.now in
    let clean_2 = clean in
    let clean_1 = clean_before at_1 at_2 c.make_payments.ensures.makes_inside.crash clean_2 in
    handed_on _ c.from_residual-in_err-make_payments.result c.in_err-make_payments.field-0.0 c.from_residual-in_err-make_payments.ensures.1 (λ sees_0 open_0.
    let sees_1 = c.in_ok-make_register.ensures.added clean_1 sees_0 in
    let open_1 = c.in_ok-make_register.ensures.makes_inside.still_open clean_1 in
    c.in_err-make_payments.ensures.usable clean_2 sees_1 open_1)

pub returns-in_err-make_records-clause-usable : goal.returns-in_err-make_records-clause-usable
returns-in_err-make_records-clause-usable g c clean =
    let at_1 = state g.S.Store c.make_register.new.tx.conn.now in
    let at_2 = state g.S.Store c.make_payments.new.tx.conn.now in
    let at_3 = state g.S.Store c.make_records.new.tx.conn.now in
    let clean_3 = clean in
    let clean_2 = clean_before at_2 at_3 c.make_records.ensures.makes_inside.crash clean_3 in
    let clean_1 = clean_before at_1 at_2 c.make_payments.ensures.makes_inside.crash clean_2 in
    handed_on _ c.from_residual-in_err-make_records.result c.in_err-make_records.field-0.0 c.from_residual-in_err-make_records.ensures.1 (λ sees_0 open_0.
    let sees_1 = c.in_ok-make_register.ensures.added clean_1 sees_0 in
    let sees_2 = c.in_ok-make_payments.ensures.added clean_2 sees_1 in
    let open_2 = c.in_ok-make_payments.ensures.makes_inside.still_open clean_2 in
    c.in_err-make_records.ensures.usable clean_3 sees_2 open_2)

pub returns-clause-usable : goal.returns-clause-usable
returns-clause-usable g c clean =
    let at_1 = state g.S.Store c.make_register.new.tx.conn.now in
    let at_2 = state g.S.Store c.make_payments.new.tx.conn.now in
    let at_3 = state g.S.Store c.make_records.new.tx.conn.now in
    let at_4 = state g.S.Store c.make_current.new.tx.conn.now in
    let clean_4 = clean in
    let clean_3 = clean_before at_3 at_4 c.make_current.ensures.makes_inside.crash clean_4 in
    let clean_2 = clean_before at_2 at_3 c.make_records.ensures.makes_inside.crash clean_3 in
    let clean_1 = clean_before at_1 at_2 c.make_payments.ensures.makes_inside.crash clean_2 in
    each_fault c.make_current.result (λ e usable sees_0 open_0.
    let sees_1 = c.in_ok-make_register.ensures.added clean_1 sees_0 in
    let sees_2 = c.in_ok-make_payments.ensures.added clean_2 sees_1 in
    let sees_3 = c.in_ok-make_records.ensures.added clean_3 sees_2 in
    let open_3 = c.in_ok-make_records.ensures.makes_inside.still_open clean_3 in
    usable sees_3 open_3) (c.make_current.ensures.usable clean)

pub returns-in_err-make_register-clause-cause : goal.returns-in_err-make_register-clause-cause
returns-in_err-make_register-clause-cause g c clean amid limit =
    let at_0 = state g.S.Store c.args.tx.now.conn.now in
    let at_1 = state g.S.Store c.make_register.new.tx.conn.now in
    handed_on (IsExcused at_0 at_1) c.from_residual.result c.in_err-make_register.field-0.0 c.from_residual.ensures.1 (c.in_err-make_register.ensures.cause clean amid limit)

pub returns-in_err-make_payments-clause-cause : goal.returns-in_err-make_payments-clause-cause
returns-in_err-make_payments-clause-cause g c clean amid limit =
    let at_0 = state g.S.Store c.args.tx.now.conn.now in
    let at_1 = state g.S.Store c.make_register.new.tx.conn.now in
    let at_2 = state g.S.Store c.make_payments.new.tx.conn.now in
    let clean_2 = clean in
    let clean_1 = clean_before at_1 at_2 c.make_payments.ensures.makes_inside.crash clean_2 in
    let before_1 = c.make_register.ensures.makes_inside.crash in
    let sees_0 = amid.1 in
    let sees_1 = c.in_ok-make_register.ensures.added clean_1 sees_0 in
    handed_on (IsExcused at_0 at_2) c.from_residual-in_err-make_payments.result c.in_err-make_payments.field-0.0 c.from_residual-in_err-make_payments.ensures.1
    (excused_then at_0 at_1 at_2 before_1 c.make_payments.ensures.makes_inside.crash clean _ (c.in_err-make_payments.ensures.cause clean (c.in_ok-make_register.ensures.makes_inside.inside clean_1, sees_1) (before_1.limit ∙ limit)))

pub returns-in_err-make_records-clause-cause : goal.returns-in_err-make_records-clause-cause
returns-in_err-make_records-clause-cause g c clean amid limit =
    let at_0 = state g.S.Store c.args.tx.now.conn.now in
    let at_1 = state g.S.Store c.make_register.new.tx.conn.now in
    let at_2 = state g.S.Store c.make_payments.new.tx.conn.now in
    let at_3 = state g.S.Store c.make_records.new.tx.conn.now in
    let clean_3 = clean in
    let clean_2 = clean_before at_2 at_3 c.make_records.ensures.makes_inside.crash clean_3 in
    let clean_1 = clean_before at_1 at_2 c.make_payments.ensures.makes_inside.crash clean_2 in
    let before_1 = c.make_register.ensures.makes_inside.crash in
    let before_2 = then_survives at_0 at_1 at_2 before_1 c.make_payments.ensures.makes_inside.crash in
    let sees_0 = amid.1 in
    let sees_1 = c.in_ok-make_register.ensures.added clean_1 sees_0 in
    let sees_2 = c.in_ok-make_payments.ensures.added clean_2 sees_1 in
    handed_on (IsExcused at_0 at_3) c.from_residual-in_err-make_records.result c.in_err-make_records.field-0.0 c.from_residual-in_err-make_records.ensures.1
    (excused_then at_0 at_2 at_3 before_2 c.make_records.ensures.makes_inside.crash clean _ (c.in_err-make_records.ensures.cause clean (c.in_ok-make_payments.ensures.makes_inside.inside clean_2, sees_2) (before_2.limit ∙ limit)))

pub returns-clause-cause : goal.returns-clause-cause
returns-clause-cause g c clean amid limit =
    let at_0 = state g.S.Store c.args.tx.now.conn.now in
    let at_1 = state g.S.Store c.make_register.new.tx.conn.now in
    let at_2 = state g.S.Store c.make_payments.new.tx.conn.now in
    let at_3 = state g.S.Store c.make_records.new.tx.conn.now in
    let at_4 = state g.S.Store c.make_current.new.tx.conn.now in
    let clean_4 = clean in
    let clean_3 = clean_before at_3 at_4 c.make_current.ensures.makes_inside.crash clean_4 in
    let clean_2 = clean_before at_2 at_3 c.make_records.ensures.makes_inside.crash clean_3 in
    let clean_1 = clean_before at_1 at_2 c.make_payments.ensures.makes_inside.crash clean_2 in
    let before_1 = c.make_register.ensures.makes_inside.crash in
    let before_2 = then_survives at_0 at_1 at_2 before_1 c.make_payments.ensures.makes_inside.crash in
    let before_3 = then_survives at_0 at_2 at_3 before_2 c.make_records.ensures.makes_inside.crash in
    let sees_0 = amid.1 in
    let sees_1 = c.in_ok-make_register.ensures.added clean_1 sees_0 in
    let sees_2 = c.in_ok-make_payments.ensures.added clean_2 sees_1 in
    let sees_3 = c.in_ok-make_records.ensures.added clean_3 sees_2 in
    each_fault c.make_current.result (excused_then at_0 at_3 at_4 before_3 c.make_current.ensures.makes_inside.crash clean) (c.make_current.ensures.cause clean (c.in_ok-make_records.ensures.makes_inside.inside clean_3, sees_3) (before_3.limit ∙ limit))
