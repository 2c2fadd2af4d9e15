use Rattle.std.proofs.Common.{◌∙◌}
use Rattle.sqlite.specs.Held.{state}
use Rattle.ee_store_tables.proofs.Lemmas.Transactions.{clean_before}
use Rattle.std.proofs.lemmas.Result.{on_ok_weaker}
use Rattle.ee_store_schema.specs.Faults.{IsExcused}
use Rattle.ee_store_schema.proofs.Lemmas.Causes.{excused_then}
use Rattle.ee_store_schema.proofs.Lemmas.Faults.{handed_on, each_fault}
use Rattle.ee_store_schema.proofs.making.make_current.Goals as goal

pub returns-clause-added : goal.returns-clause-added
returns-clause-added g c clean =
    let at_1 = state g.S.Store c.replace_replies.new.tx.conn.now in
    let at_2 = state g.S.Store c.add_desk.new.tx.conn.now in
    let clean_2 = clean in
    let clean_1 = clean_before at_1 at_2 c.add_desk.ensures.makes_inside.crash clean_2 in
    on_ok_weaker c.add_desk.result (λ added sees_0.
    let sees_1 = c.in_ok-replace_replies.ensures.left clean_1 sees_0 in
    added sees_1) (c.add_desk.ensures.added clean)

pub returns-clause-sound : goal.returns-clause-sound
returns-clause-sound g c clean =
    let at_1 = state g.S.Store c.replace_replies.new.tx.conn.now in
    let at_2 = state g.S.Store c.add_desk.new.tx.conn.now in
    let clean_2 = clean in
    let clean_1 = clean_before at_1 at_2 c.add_desk.ensures.makes_inside.crash clean_2 in
    on_ok_weaker c.add_desk.result (λ sound sees_0.
    let sees_1 = c.in_ok-replace_replies.ensures.left clean_1 sees_0 in
    sound sees_1) (c.add_desk.ensures.sound clean)

pub returns-in_err-replace_replies-clause-usable : goal.returns-in_err-replace_replies-clause-usable
returns-in_err-replace_replies-clause-usable g c clean =
    let clean_1 = clean in
    handed_on _ c.from_residual.result c.in_err-replace_replies.field-0.0 c.from_residual.ensures.1 (λ sees_0 open_0.
    c.in_err-replace_replies.ensures.usable clean_1 (λ o. (sees_0 o).0) open_0)

pub returns-clause-usable : goal.returns-clause-usable
returns-clause-usable g c clean =
    let at_1 = state g.S.Store c.replace_replies.new.tx.conn.now in
    let at_2 = state g.S.Store c.add_desk.new.tx.conn.now in
    let clean_2 = clean in
    let clean_1 = clean_before at_1 at_2 c.add_desk.ensures.makes_inside.crash clean_2 in
    each_fault c.add_desk.result (λ e usable sees_0 open_0.
    let sees_1 = c.in_ok-replace_replies.ensures.left clean_1 sees_0 in
    let open_1 = c.in_ok-replace_replies.ensures.makes_inside.still_open clean_1 in
    usable sees_1 open_1) (c.add_desk.ensures.usable clean)

pub returns-in_err-replace_replies-clause-cause : goal.returns-in_err-replace_replies-clause-cause
returns-in_err-replace_replies-clause-cause g c clean amid limit =
    let at_0 = state g.S.Store c.args.tx.now.conn.now in
    let at_1 = state g.S.Store c.replace_replies.new.tx.conn.now in
    handed_on (IsExcused at_0 at_1) c.from_residual.result c.in_err-replace_replies.field-0.0 c.from_residual.ensures.1 (c.in_err-replace_replies.ensures.cause clean (amid.0, λ o. (amid.1 o).0) limit)

pub returns-clause-cause : goal.returns-clause-cause
returns-clause-cause g c clean amid limit =
    let at_0 = state g.S.Store c.args.tx.now.conn.now in
    let at_1 = state g.S.Store c.replace_replies.new.tx.conn.now in
    let at_2 = state g.S.Store c.add_desk.new.tx.conn.now in
    let clean_2 = clean in
    let clean_1 = clean_before at_1 at_2 c.add_desk.ensures.makes_inside.crash clean_2 in
    let before_1 = c.replace_replies.ensures.makes_inside.crash in
    let sees_0 = amid.1 in
    let sees_1 = c.in_ok-replace_replies.ensures.left clean_1 sees_0 in
    each_fault c.add_desk.result (excused_then at_0 at_1 at_2 before_1 c.add_desk.ensures.makes_inside.crash clean) (c.add_desk.ensures.cause clean (c.in_ok-replace_replies.ensures.makes_inside.inside clean_1, sees_1) (before_1.limit ∙ limit))
