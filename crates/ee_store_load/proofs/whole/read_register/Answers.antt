use Rattle.std.proofs.Common.{sym, subst, ◌∙◌}
use Rattle.sqlite.specs.Effect.{Database}
use Rattle.sqlite.specs.Held.{state}
use Rattle.ee_store_tables.specs.Keyed.{HoldsMap, HoldsPairs}
use Rattle.ee_store_tables.specs.Rows.{rate_columns, bond_columns}
use Rattle.ee_store_tables.proofs.Lemmas.Transactions.{clean_before}
use Rattle.ee_store_load.specs.Shown.{rate_map, bond_map}
use Rattle.ee_store_schema.specs.Forms.{HoldsIn}
use Rattle.ee_store_schema.proofs.Lemmas.Forms.{common}
use Rattle.ee_store_schema.proofs.Lemmas.Faults.{handed_on}
use Rattle.ee_store_load.proofs.ReadLemmas.{sound_after, still_ours, loads_then, loads_made, loads_failed}
use Rattle.ee_store_schema.specs.Faults.{IsExcused}
use Rattle.ee_store_schema.proofs.Lemmas.Causes.{excused_then, then_survives}
use Rattle.ee_store_load.proofs.whole.read_register.Goals as goal

pub returns-in_err-rates-clause-only_loads : goal.returns-in_err-rates-clause-only_loads
returns-in_err-rates-clause-only_loads g c =
    let at_0 = state g.S.Store c.args.conn.now in
    let at_1 = state g.S.Store c.read_desk.new.conn in
    let at_2 = state g.S.Store c.read_rates.new.conn in
    loads_failed at_0 at_2 c.in_err-rates.field-0.0 c.from_residual-in_err-rates.result c.from_residual-in_err-rates.ensures.1
    (loads_then at_0 at_1 at_2 _ _ c.in_ok-desk.ensures.only_loads c.in_err-rates.ensures.only_loads)

pub returns-in_err-bonds-clause-only_loads : goal.returns-in_err-bonds-clause-only_loads
returns-in_err-bonds-clause-only_loads g c =
    let at_0 = state g.S.Store c.args.conn.now in
    let at_1 = state g.S.Store c.read_desk.new.conn in
    let at_2 = state g.S.Store c.read_rates.new.conn in
    let at_3 = state g.S.Store c.read_bonds.new.conn in
    loads_failed at_0 at_3 c.in_err-bonds.field-0.0 c.from_residual-in_err-bonds.result c.from_residual-in_err-bonds.ensures.1
    (loads_then at_0 at_1 at_3 _ _ c.in_ok-desk.ensures.only_loads (loads_then at_1 at_2 at_3 _ _ c.in_ok-rates.ensures.only_loads c.in_err-bonds.ensures.only_loads))

pub returns-clause-only_loads : goal.returns-clause-only_loads
returns-clause-only_loads g c =
    let at_0 = state g.S.Store c.args.conn.now in
    let at_1 = state g.S.Store c.read_desk.new.conn in
    let at_2 = state g.S.Store c.read_rates.new.conn in
    let at_3 = state g.S.Store c.read_bonds.new.conn in
    loads_made at_0 at_3 _ _ (loads_then at_0 at_1 at_3 _ _ c.in_ok-desk.ensures.only_loads (loads_then at_1 at_2 at_3 _ _ c.in_ok-rates.ensures.only_loads c.in_ok-bonds.ensures.only_loads))

pub returns-clause-found : goal.returns-clause-found
returns-clause-found g c clean ours sound =
    let old = state g.S.Store c.args.conn.now in
    let at_1 = state g.S.Store c.read_desk.new.conn in
    let at_2 = state g.S.Store c.read_rates.new.conn in
    let at_3 = state g.S.Store c.read_bonds.new.conn in
    let clean_3 = clean in
    let clean_2 = clean_before at_2 at_3 c.read_bonds.ensures.only_loads.crash clean_3 in
    let clean_1 = clean_before at_1 at_2 c.read_rates.ensures.only_loads.crash clean_2 in
    let same_1 = c.in_ok-desk.ensures.only_loads.same clean_1 in
    let ours_1 = still_ours old at_1 same_1 ours in
    let sound_1 = sound_after old at_1 same_1 sound in
    let same_2 = c.in_ok-rates.ensures.only_loads.same clean_2 in
    let ours_2 = still_ours at_1 at_2 same_2 ours_1 in
    let sound_2 = sound_after at_1 at_2 same_2 sound_1 in
    let desk_held = c.in_ok-desk.ensures.found clean_1 ours sound in
    let rates_held = subst (λ (d : Database). HoldsMap rate_columns (d.trees 1) (rate_map c.in_ok-rates.rates.items)) (same_1.0.now_is) (c.in_ok-rates.ensures.found clean_2 ours_1 sound_1) in
    let bonds_held = subst (λ (d : Database). HoldsPairs bond_columns (d.trees 2) (bond_map c.in_ok-bonds.bonds.items)) (same_2.0.now_is ∙ same_1.0.now_is) (c.in_ok-bonds.ensures.found clean_3 ours_2 sound_2) in
    record { desk = desk_held; rates = rates_held; bonds = bonds_held }

pub returns-clause-listed : goal.returns-clause-listed
returns-clause-listed g c = record { desk = c.in_ok-desk.ensures.listed; rates = c.in_ok-rates.ensures.listed; bonds = c.in_ok-bonds.ensures.listed }

pub returns-in_err-desk-clause-usable : goal.returns-in_err-desk-clause-usable
returns-in_err-desk-clause-usable g c clean =
    handed_on _ c.from_residual.result c.in_err-desk.field-0.0 c.from_residual.ensures.1 (λ unusable ours_0 open_0 form rows bonds holds_0.
    let at_0 = state g.S.Store c.args.conn.now in
    let at_1 = state g.S.Store c.read_desk.new.conn in
    let clean_1 = clean in
    c.in_err-desk.ensures.usable clean_1 unusable ours_0 open_0 rows.desk (common form at_0.now.trees rows holds_0).desk)

pub returns-in_err-rates-clause-usable : goal.returns-in_err-rates-clause-usable
returns-in_err-rates-clause-usable g c clean =
    handed_on _ c.from_residual-in_err-rates.result c.in_err-rates.field-0.0 c.from_residual-in_err-rates.ensures.1 (λ unusable ours_0 open_0 form rows bonds holds_0.
    let at_0 = state g.S.Store c.args.conn.now in
    let at_1 = state g.S.Store c.read_desk.new.conn in
    let at_2 = state g.S.Store c.read_rates.new.conn in
    let clean_2 = clean in
    let clean_1 = clean_before at_1 at_2 c.read_rates.ensures.only_loads.crash clean_2 in
    let same_1 = c.in_ok-desk.ensures.only_loads.same clean_1 in
    let ours_1 = still_ours at_0 at_1 same_1 ours_0 in
    let open_1 = same_1.0.is_open in
    let holds_1 = subst (λ (d : Database). HoldsIn form d.trees rows) (sym same_1.0.now_is) holds_0 in
    c.in_err-rates.ensures.usable clean_2 unusable ours_1 open_1 rows.rates (common form at_1.now.trees rows holds_1).rates)

pub returns-in_err-bonds-clause-usable : goal.returns-in_err-bonds-clause-usable
returns-in_err-bonds-clause-usable g c clean =
    handed_on _ c.from_residual-in_err-bonds.result c.in_err-bonds.field-0.0 c.from_residual-in_err-bonds.ensures.1 (λ unusable ours_0 open_0 form rows bonds holds_0.
    let at_0 = state g.S.Store c.args.conn.now in
    let at_1 = state g.S.Store c.read_desk.new.conn in
    let at_2 = state g.S.Store c.read_rates.new.conn in
    let at_3 = state g.S.Store c.read_bonds.new.conn in
    let clean_3 = clean in
    let clean_2 = clean_before at_2 at_3 c.read_bonds.ensures.only_loads.crash clean_3 in
    let clean_1 = clean_before at_1 at_2 c.read_rates.ensures.only_loads.crash clean_2 in
    let same_1 = c.in_ok-desk.ensures.only_loads.same clean_1 in
    let ours_1 = still_ours at_0 at_1 same_1 ours_0 in
    let open_1 = same_1.0.is_open in
    let holds_1 = subst (λ (d : Database). HoldsIn form d.trees rows) (sym same_1.0.now_is) holds_0 in
    let same_2 = c.in_ok-rates.ensures.only_loads.same clean_2 in
    let ours_2 = still_ours at_1 at_2 same_2 ours_1 in
    let open_2 = same_2.0.is_open in
    let holds_2 = subst (λ (d : Database). HoldsIn form d.trees rows) (sym same_2.0.now_is) holds_1 in
    c.in_err-bonds.ensures.usable clean_3 unusable ours_2 open_2 rows.bonds bonds (common form at_2.now.trees rows holds_2).bonds)

pub returns-in_err-desk-clause-cause : goal.returns-in_err-desk-clause-cause
returns-in_err-desk-clause-cause g c clean ours_0 limit =
    let at_0 = state g.S.Store c.args.conn.now in
    let at_1 = state g.S.Store c.read_desk.new.conn in
    handed_on (IsExcused at_0 at_1) c.from_residual.result c.in_err-desk.field-0.0 c.from_residual.ensures.1 (c.in_err-desk.ensures.cause clean ours_0 limit)

pub returns-in_err-rates-clause-cause : goal.returns-in_err-rates-clause-cause
returns-in_err-rates-clause-cause g c clean ours_0 limit =
    let at_0 = state g.S.Store c.args.conn.now in
    let at_1 = state g.S.Store c.read_desk.new.conn in
    let at_2 = state g.S.Store c.read_rates.new.conn in
    let clean_2 = clean in
    let clean_1 = clean_before at_1 at_2 c.read_rates.ensures.only_loads.crash clean_2 in
    let before_1 = c.read_desk.ensures.only_loads.crash in
    let ours_1 = still_ours at_0 at_1 (c.in_ok-desk.ensures.only_loads.same clean_1) ours_0 in
    handed_on (IsExcused at_0 at_2) c.from_residual-in_err-rates.result c.in_err-rates.field-0.0 c.from_residual-in_err-rates.ensures.1
    (excused_then at_0 at_1 at_2 before_1 c.read_rates.ensures.only_loads.crash clean _ (c.in_err-rates.ensures.cause clean ours_1 (before_1.limit ∙ limit)))

pub returns-in_err-bonds-clause-cause : goal.returns-in_err-bonds-clause-cause
returns-in_err-bonds-clause-cause g c clean ours_0 limit =
    let at_0 = state g.S.Store c.args.conn.now in
    let at_1 = state g.S.Store c.read_desk.new.conn in
    let at_2 = state g.S.Store c.read_rates.new.conn in
    let at_3 = state g.S.Store c.read_bonds.new.conn in
    let clean_3 = clean in
    let clean_2 = clean_before at_2 at_3 c.read_bonds.ensures.only_loads.crash clean_3 in
    let clean_1 = clean_before at_1 at_2 c.read_rates.ensures.only_loads.crash clean_2 in
    let before_1 = c.read_desk.ensures.only_loads.crash in
    let before_2 = then_survives at_0 at_1 at_2 before_1 c.read_rates.ensures.only_loads.crash in
    let ours_1 = still_ours at_0 at_1 (c.in_ok-desk.ensures.only_loads.same clean_1) ours_0 in
    let ours_2 = still_ours at_1 at_2 (c.in_ok-rates.ensures.only_loads.same clean_2) ours_1 in
    handed_on (IsExcused at_0 at_3) c.from_residual-in_err-bonds.result c.in_err-bonds.field-0.0 c.from_residual-in_err-bonds.ensures.1
    (excused_then at_0 at_2 at_3 before_2 c.read_bonds.ensures.only_loads.crash clean _ (c.in_err-bonds.ensures.cause clean ours_2 (before_2.limit ∙ limit)))
