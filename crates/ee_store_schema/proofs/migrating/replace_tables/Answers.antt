use Rattle.std.proofs.Common.{sym, ap, subst}
use Rattle.sqlite.proofs.InsideLemmas.{keeps_then}
use Rattle.sqlite.specs.Held.{state}
use Rattle.ee_store_tables.specs.Rows.{Rises}
use Rattle.ee_store_tables.proofs.Lemmas.Transactions.{clean_before}
use Rattle.ee_store_tables.specs.Tables.{others_in}
use Rattle.ee_store_tables.proofs.Lemmas.Others.{ours_alone}
use Rattle.ee_store_schema.specs.Forms.{HasForm}
use Rattle.ee_store_schema.specs.Inner.Forms.{SeesForm, SeesIn}
use Rattle.ee_store_schema.proofs.MigrateLemmas.{extended, replaced, extended_room, replaced_room, none_kept}
use Rattle.ee_store_schema.proofs.migrating.replace_tables.Goals as goal

-- ---- version 1

pub returns-in_ok-replace_replies-in-First-clause-inside : goal.returns-in_ok-replace_replies-in-First-clause-inside
returns-in_ok-replace_replies-in-First-clause-inside g c clean begun is_open =
    let old = state g.S.Store c.args.tx.now.conn.now in
    let new = state g.S.Store c.replace_replies.new.tx.conn.now in
    let it = c.in_ok-replace_replies-in-First.ensures in
    let ours = (it.replaced clean (subst (λ f. SeesForm f old) c.in-First.is begun.0)).schema in
    let had = subst (λ f. HasForm f old) c.in-First.is begun.1 in
    (it.makes_inside.inside clean, ours_alone new.now.schema ours, none_kept old new (it.makes_inside.commit clean) (λ o. ap others_in (had o)) ours is_open)

pub returns-in_ok-replace_replies-in-First-clause-made : goal.returns-in_ok-replace_replies-in-First-clause-made
returns-in_ok-replace_replies-in-First-clause-made g c clean rows sees is_open =
    let old = state g.S.Store c.args.tx.now.conn.now in
    let new = state g.S.Store c.replace_replies.new.tx.conn.now in
    let it = c.in_ok-replace_replies-in-First.ensures in
    let first = subst (λ f. SeesIn f old rows) c.in-First.is sees in
    let replaces = it.replaced clean (λ o. (first o).0) in
    (ours_alone new.now.schema replaces.schema, replaced old new rows replaces (first ((it.makes_inside.commit clean).was_open is_open)).1)

pub returns-in_ok-replace_replies-in-First-clause-place : goal.returns-in_ok-replace_replies-in-First-clause-place
returns-in_ok-replace_replies-in-First-clause-place g c clean sees n few is_open =
    let old = state g.S.Store c.args.tx.now.conn.now in
    let replaces = c.in_ok-replace_replies-in-First.ensures.replaced clean (subst (λ f. SeesForm f old) c.in-First.is sees) in
    (replaces.sound, subst (Rises 1 n) (sym replaces.empty) few)

pub returns-in_ok-replace_replies-in-First-clause-room : goal.returns-in_ok-replace_replies-in-First-clause-room
returns-in_ok-replace_replies-in-First-clause-room g c clean sees =
    let old = state g.S.Store c.args.tx.now.conn.now in
    let new = state g.S.Store c.replace_replies.new.tx.conn.now in
    replaced_room old new (c.in_ok-replace_replies-in-First.ensures.replaced clean (subst (λ f. SeesForm f old) c.in-First.is sees))

-- ---- version 1 without extensions

pub returns-in_ok-replace_replies-in-Earliest-clause-inside : goal.returns-in_ok-replace_replies-in-Earliest-clause-inside
returns-in_ok-replace_replies-in-Earliest-clause-inside g c clean begun is_open =
    let old = state g.S.Store c.args.tx.now.conn.now in
    let middle = state g.S.Store c.define_extensions.new.tx.conn.now in
    let new = state g.S.Store c.replace_replies-in-Earliest.new.tx.conn.now in
    let before = clean_before middle new c.replace_replies-in-Earliest.ensures.makes_inside.crash clean in
    let one = c.in_ok-define_extensions-in-Earliest.ensures in
    let it = c.in_ok-replace_replies-in-Earliest.ensures in
    let gained = one.gained before (subst (λ f. SeesForm f old) c.in-Earliest.is begun.0) (one.makes_inside.still_open before) in
    let ours = (it.replaced clean (λ _. gained.schema)).schema in
    let had = subst (λ f. HasForm f old) c.in-Earliest.is begun.1 in
    (it.makes_inside.inside clean, ours_alone new.now.schema ours, none_kept old new (keeps_then old middle new (one.makes_inside.commit before) (it.makes_inside.commit clean)) (λ o. ap others_in (had o)) ours is_open)

pub returns-in_ok-replace_replies-in-Earliest-clause-made : goal.returns-in_ok-replace_replies-in-Earliest-clause-made
returns-in_ok-replace_replies-in-Earliest-clause-made g c clean rows sees is_open =
    let old = state g.S.Store c.args.tx.now.conn.now in
    let middle = state g.S.Store c.define_extensions.new.tx.conn.now in
    let new = state g.S.Store c.replace_replies-in-Earliest.new.tx.conn.now in
    let before = clean_before middle new c.replace_replies-in-Earliest.ensures.makes_inside.crash clean in
    let one = c.in_ok-define_extensions-in-Earliest.ensures in
    let it = c.in_ok-replace_replies-in-Earliest.ensures in
    let first = subst (λ f. SeesIn f old rows) c.in-Earliest.is sees in
    let gained = one.gained before (λ o. (first o).0) (one.makes_inside.still_open before) in
    let replaces = it.replaced clean (λ _. gained.schema) in
    (ours_alone new.now.schema replaces.schema, replaced middle new rows replaces (extended old middle rows gained (first ((one.makes_inside.commit before).was_open (one.makes_inside.still_open before))).1))

pub returns-in_ok-replace_replies-in-Earliest-clause-place : goal.returns-in_ok-replace_replies-in-Earliest-clause-place
returns-in_ok-replace_replies-in-Earliest-clause-place g c clean sees n few is_open =
    let old = state g.S.Store c.args.tx.now.conn.now in
    let middle = state g.S.Store c.define_extensions.new.tx.conn.now in
    let new = state g.S.Store c.replace_replies-in-Earliest.new.tx.conn.now in
    let before = clean_before middle new c.replace_replies-in-Earliest.ensures.makes_inside.crash clean in
    let one = c.in_ok-define_extensions-in-Earliest.ensures in
    let gained = one.gained before (subst (λ f. SeesForm f old) c.in-Earliest.is sees) (one.makes_inside.still_open before) in
    let replaces = c.in_ok-replace_replies-in-Earliest.ensures.replaced clean (λ _. gained.schema) in
    (replaces.sound, subst (Rises 1 n) (sym replaces.empty) few)

pub returns-in_ok-replace_replies-in-Earliest-clause-room : goal.returns-in_ok-replace_replies-in-Earliest-clause-room
returns-in_ok-replace_replies-in-Earliest-clause-room g c clean sees n room =
    let old = state g.S.Store c.args.tx.now.conn.now in
    let middle = state g.S.Store c.define_extensions.new.tx.conn.now in
    let new = state g.S.Store c.replace_replies-in-Earliest.new.tx.conn.now in
    let before = clean_before middle new c.replace_replies-in-Earliest.ensures.makes_inside.crash clean in
    let one = c.in_ok-define_extensions-in-Earliest.ensures in
    let gained = one.gained before (subst (λ f. SeesForm f old) c.in-Earliest.is sees) (one.makes_inside.still_open before) in
    replaced_room middle new (c.in_ok-replace_replies-in-Earliest.ensures.replaced clean (λ _. gained.schema)) n (extended_room old middle gained n room)
