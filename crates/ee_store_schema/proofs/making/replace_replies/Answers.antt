use Rattle.std.proofs.Common.{◌∙◌}
use Rattle.sqlite.specs.Held.{state}
use Rattle.ee_store_tables.proofs.Lemmas.Transactions.{clean_before}
use Rattle.std.proofs.lemmas.Result.{on_ok_weaker}
use Rattle.ee_store_schema.specs.Faults.{IsExcused}
use Rattle.ee_store_schema.proofs.Lemmas.Causes.{excused_then}
use Rattle.ee_store_schema.proofs.Lemmas.Faults.{handed_on, each_fault, two_ok}
use Rattle.ee_store_schema.proofs.DropLemmas.{replaces}
use Rattle.ee_store_schema.proofs.making.replace_replies.Goals as goal

pub returns-clause-replaced : goal.returns-clause-replaced
returns-clause-replaced g c clean =
    let old = state g.S.Store c.args.tx.now.conn.now in
    let middle = state g.S.Store c.define_answers.new.tx.conn.now in
    let new = state g.S.Store c.drop_replies.new.tx.conn.now in
    let before = clean_before middle new c.drop_replies.ensures.makes_inside.crash clean in
    two_ok c.drop_replies.result (λ is_open dropped sees.
    let gained = c.in_ok-define_answers.ensures.gained before sees (c.in_ok-define_answers.ensures.makes_inside.still_open before) in
    replaces old middle new gained (dropped (λ _. gained.schema) is_open)) (c.drop_replies.ensures.makes_inside.still_open clean) (c.drop_replies.ensures.dropped clean)

pub returns-clause-left : goal.returns-clause-left
returns-clause-left g c clean =
    let middle = state g.S.Store c.define_answers.new.tx.conn.now in
    let new = state g.S.Store c.drop_replies.new.tx.conn.now in
    let before = clean_before middle new c.drop_replies.ensures.makes_inside.crash clean in
    on_ok_weaker c.drop_replies.result (λ left sees. left (c.in_ok-define_answers.ensures.added before sees)) (c.drop_replies.ensures.left clean)

pub returns-in_err-define_answers-clause-usable : goal.returns-in_err-define_answers-clause-usable
returns-in_err-define_answers-clause-usable g c clean =
    handed_on _ c.from_residual.result c.in_err-define_answers.field-0.0 c.from_residual.ensures.1 (λ sees is_open. c.in_err-define_answers.ensures.usable clean sees is_open)

pub returns-clause-usable : goal.returns-clause-usable
returns-clause-usable g c clean =
    let middle = state g.S.Store c.define_answers.new.tx.conn.now in
    let new = state g.S.Store c.drop_replies.new.tx.conn.now in
    let before = clean_before middle new c.drop_replies.ensures.makes_inside.crash clean in
    let is_open = c.in_ok-define_answers.ensures.makes_inside.still_open before in
    each_fault c.drop_replies.result (λ e usable sees was_open. usable (λ _. (c.in_ok-define_answers.ensures.gained before sees is_open).schema) is_open) (c.drop_replies.ensures.usable clean)

pub returns-in_err-define_answers-clause-cause : goal.returns-in_err-define_answers-clause-cause
returns-in_err-define_answers-clause-cause g c clean over limit =
    let old = state g.S.Store c.args.tx.now.conn.now in
    let middle = state g.S.Store c.define_answers.new.tx.conn.now in
    handed_on (IsExcused old middle) c.from_residual.result c.in_err-define_answers.field-0.0 c.from_residual.ensures.1 (c.in_err-define_answers.ensures.cause clean over limit)

pub returns-clause-cause : goal.returns-clause-cause
returns-clause-cause g c clean over limit =
    let old = state g.S.Store c.args.tx.now.conn.now in
    let middle = state g.S.Store c.define_answers.new.tx.conn.now in
    let new = state g.S.Store c.drop_replies.new.tx.conn.now in
    let before = clean_before middle new c.drop_replies.ensures.makes_inside.crash clean in
    let is_open = c.in_ok-define_answers.ensures.makes_inside.still_open before in
    let first = c.define_answers.ensures.makes_inside.crash in
    let gained = c.in_ok-define_answers.ensures.gained before over.1 is_open in
    each_fault c.drop_replies.result (excused_then old middle new first c.drop_replies.ensures.makes_inside.crash clean)
    (c.drop_replies.ensures.cause clean (c.in_ok-define_answers.ensures.makes_inside.inside before, λ _. gained.schema) (first.limit ∙ limit))
