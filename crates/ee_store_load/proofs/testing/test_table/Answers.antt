use Rattle.std.proofs.Common.{◌∙◌, [], refl, sym, subst}
use Rattle.sqlite.specs.Held.{state}
use Rattle.sqlite.specs.Given.{IsPlain}
use Rattle.sqlite.specs.Listing.{understood}
use Rattle.ee_store_schema.specs.Faults.{IsExcused}
use Rattle.ee_store_schema.specs.Inner.Asking.{IsNeverRefused}
use Rattle.ee_store_schema.proofs.Lemmas.Causes.{excused_if_open}
use Rattle.ee_store_schema.proofs.Lemmas.Faults.{handed_on}
use Rattle.ee_store_load.proofs.ScanLemmas.{is_plain, answers, shows_all, unreadable}
use Rattle.ee_store_load.proofs.testing.test_table.Goals as goal

pub returns-clause-found : goal.returns-clause-found
returns-clause-found g c clean =
    let old = state g.S.Store c.args.conn.now in
    let new = state g.S.Store c.gather_rows.new.conn in
    let is_open = (c.in_ok-found.ensures.only_loads.same clean).0.was_open in
    let read = c.in_ok-found.ensures.shown clean in (
      read.0,
      λ schema tree terms order asks ours. (is_open, shows_all old new schema c.args.sql.now tree terms order _ asks (ours is_open) read.1),
      sym read.2.rise_is ∙ c.if-not-found.false,
      read.2.pass_is,
    )

pub returns-in_err-found-clause-usable : goal.returns-in_err-found-clause-usable
returns-in_err-found-clause-usable g c clean =
    let old = state g.S.Store c.args.conn.now in
    handed_on _ c.from_residual.result c.in_err-found.field-0.0 c.from_residual.ensures.1 (λ unusable schema tree terms order asks ours is_open can.
    let plain = subst (λ s. IsPlain (understood s c.args.sql.now)) (sym (ours is_open)) (is_plain schema c.args.sql.now tree terms order asks) in
    unreadable g.T.StoredRow.is_readable old schema c.args.sql.now tree terms order asks (ours is_open) is_open (c.in_err-found.ensures.usable clean unusable plain) (λ rows a. (can rows a).0))

pub returns-then-not-found-clause-usable : goal.returns-then-not-found-clause-usable
returns-then-not-found-clause-usable g c clean unusable schema tree terms order asks ours is_open can =
    let old = state g.S.Store c.args.conn.now in
    let new = state g.S.Store c.gather_rows.new.conn in
    let read = c.in_ok-found.ensures.shown clean in
    let it = can _ (answers old new schema c.args.sql.now tree terms order _ asks (ours is_open) read.1) in
    let up = sym (it.1 read.0 refl) ∙ sym read.2.rise_is ∙ c.if-not-found.true in
    cc

pub returns-in_err-found-clause-cause : goal.returns-in_err-found-clause-cause
returns-in_err-found-clause-cause g c schema never clean ours limit =
    let old = state g.S.Store c.args.conn.now in
    let new = state g.S.Store c.gather_rows.new.conn in
    handed_on (IsExcused old new) c.from_residual.result c.in_err-found.field-0.0 c.from_residual.ensures.1 (excused_if_open old new _ (λ is_open.
    c.in_err-found.ensures.cause clean (subst (λ s. IsNeverRefused s c.args.sql.now []) (sym (ours is_open)) never) limit))
