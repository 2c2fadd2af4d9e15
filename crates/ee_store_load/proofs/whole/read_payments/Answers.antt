use Rattle.std.proofs.Common.{sym, subst, ◌∙◌}
use Rattle.sqlite.specs.Effect.{Database}
use Rattle.sqlite.specs.Held.{state}
use Rattle.ee_store_tables.specs.Keyed.{HoldsPairs}
use Rattle.ee_store_tables.specs.Rows.{paid_columns}
use Rattle.ee_store_tables.proofs.Lemmas.Transactions.{clean_before}
use Rattle.ee_store_load.specs.Shown.{line_map}
use Rattle.ee_store_schema.specs.Forms.{HoldsIn}
use Rattle.ee_store_schema.proofs.Lemmas.Forms.{common}
use Rattle.ee_store_schema.proofs.Lemmas.Faults.{handed_on}
use Rattle.ee_store_load.proofs.ReadLemmas.{sound_after, still_ours, loads_then, loads_made, loads_failed}
use Rattle.ee_store_schema.specs.Faults.{IsExcused}
use Rattle.ee_store_schema.proofs.Lemmas.Causes.{excused_then}
use Rattle.ee_store_load.proofs.whole.read_payments.Goals as goal

pub returns-in_err-lines-clause-only_loads : goal.returns-in_err-lines-clause-only_loads
returns-in_err-lines-clause-only_loads g c =
    let at_0 = state g.S.Store c.args.conn.now in
    let at_1 = state g.S.Store c.read_tickets.new.conn in
    let at_2 = state g.S.Store c.read_lines.new.conn in
    loads_failed at_0 at_2 c.in_err-lines.field-0.0 c.from_residual-in_err-lines.result c.from_residual-in_err-lines.ensures.1
    (loads_then at_0 at_1 at_2 _ _ c.in_ok-tickets.ensures.only_loads c.in_err-lines.ensures.only_loads)

pub returns-clause-only_loads : goal.returns-clause-only_loads
returns-clause-only_loads g c =
    let at_0 = state g.S.Store c.args.conn.now in
    let at_1 = state g.S.Store c.read_tickets.new.conn in
    let at_2 = state g.S.Store c.read_lines.new.conn in
    loads_made at_0 at_2 _ _ (loads_then at_0 at_1 at_2 _ _ c.in_ok-tickets.ensures.only_loads c.in_ok-lines.ensures.only_loads)

pub returns-clause-found : goal.returns-clause-found
returns-clause-found g c clean ours sound =
    let old = state g.S.Store c.args.conn.now in
    let at_1 = state g.S.Store c.read_tickets.new.conn in
    let at_2 = state g.S.Store c.read_lines.new.conn in
    let clean_2 = clean in
    let clean_1 = clean_before at_1 at_2 c.read_lines.ensures.only_loads.crash clean_2 in
    let same_1 = c.in_ok-tickets.ensures.only_loads.same clean_1 in
    let ours_1 = still_ours old at_1 same_1 ours in
    let sound_1 = sound_after old at_1 same_1 sound in
    let tickets_held = c.in_ok-tickets.ensures.found clean_1 ours sound in
    let lines_held = subst (λ (d : Database). HoldsPairs paid_columns (d.trees 7) (line_map c.in_ok-lines.lines.items)) (same_1.0.now_is) (c.in_ok-lines.ensures.found clean_2 ours_1 sound_1) in
    record { tickets = tickets_held; lines = lines_held }

pub returns-clause-listed : goal.returns-clause-listed
returns-clause-listed g c = record { tickets = c.in_ok-tickets.ensures.listed; lines = c.in_ok-lines.ensures.listed }

pub returns-in_err-tickets-clause-usable : goal.returns-in_err-tickets-clause-usable
returns-in_err-tickets-clause-usable g c clean =
    handed_on _ c.from_residual.result c.in_err-tickets.field-0.0 c.from_residual.ensures.1 (λ unusable ours_0 open_0 form rows holds_0.
    let at_0 = state g.S.Store c.args.conn.now in
    let at_1 = state g.S.Store c.read_tickets.new.conn in
    let clean_1 = clean in
    c.in_err-tickets.ensures.usable clean_1 unusable ours_0 open_0 rows.tickets (common form at_0.now.trees rows holds_0).tickets)

pub returns-in_err-lines-clause-usable : goal.returns-in_err-lines-clause-usable
returns-in_err-lines-clause-usable g c clean =
    handed_on _ c.from_residual-in_err-lines.result c.in_err-lines.field-0.0 c.from_residual-in_err-lines.ensures.1 (λ unusable ours_0 open_0 form rows holds_0.
    let at_0 = state g.S.Store c.args.conn.now in
    let at_1 = state g.S.Store c.read_tickets.new.conn in
    let at_2 = state g.S.Store c.read_lines.new.conn in
    let clean_2 = clean in
    let clean_1 = clean_before at_1 at_2 c.read_lines.ensures.only_loads.crash clean_2 in
    let same_1 = c.in_ok-tickets.ensures.only_loads.same clean_1 in
    let ours_1 = still_ours at_0 at_1 same_1 ours_0 in
    let open_1 = same_1.0.is_open in
    let holds_1 = subst (λ (d : Database). HoldsIn form d.trees rows) (sym same_1.0.now_is) holds_0 in
    c.in_err-lines.ensures.usable clean_2 unusable ours_1 open_1 rows.paid (common form at_1.now.trees rows holds_1).paid)

pub returns-in_err-tickets-clause-cause : goal.returns-in_err-tickets-clause-cause
returns-in_err-tickets-clause-cause g c clean ours_0 limit =
    let at_0 = state g.S.Store c.args.conn.now in
    let at_1 = state g.S.Store c.read_tickets.new.conn in
    handed_on (IsExcused at_0 at_1) c.from_residual.result c.in_err-tickets.field-0.0 c.from_residual.ensures.1 (c.in_err-tickets.ensures.cause clean ours_0 limit)

pub returns-in_err-lines-clause-cause : goal.returns-in_err-lines-clause-cause
returns-in_err-lines-clause-cause g c clean ours_0 limit =
    let at_0 = state g.S.Store c.args.conn.now in
    let at_1 = state g.S.Store c.read_tickets.new.conn in
    let at_2 = state g.S.Store c.read_lines.new.conn in
    let clean_2 = clean in
    let clean_1 = clean_before at_1 at_2 c.read_lines.ensures.only_loads.crash clean_2 in
    let before_1 = c.read_tickets.ensures.only_loads.crash in
    let ours_1 = still_ours at_0 at_1 (c.in_ok-tickets.ensures.only_loads.same clean_1) ours_0 in
    handed_on (IsExcused at_0 at_2) c.from_residual-in_err-lines.result c.in_err-lines.field-0.0 c.from_residual-in_err-lines.ensures.1
    (excused_then at_0 at_1 at_2 before_1 c.read_lines.ensures.only_loads.crash clean _ (c.in_err-lines.ensures.cause clean ours_1 (before_1.limit ∙ limit)))
