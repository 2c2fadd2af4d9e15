use Rattle.std.proofs.Common.{◌∙◌}
use Rattle.sqlite.specs.Held.{state}
use Rattle.ee_store_tables.proofs.Lemmas.Transactions.{clean_before}
use Rattle.std.proofs.lemmas.Result.{on_ok_weaker}
use Rattle.ee_store_schema.specs.Faults.{IsExcused}
use Rattle.ee_store_schema.specs.Making.{no_tables}
use Rattle.ee_store_schema.specs.Inner.Making.{register_tables}
use Rattle.ee_store_schema.proofs.TextLemmas.{with_desk, with_rates, with_bonds, adds_desk, adds_rates, adds_bonds, adds_owner}
use Rattle.ee_store_schema.proofs.TakesLemmas.{takes_desk, takes_rates, takes_bonds, takes_owner}
use Rattle.ee_store_schema.proofs.Lemmas.Causes.{excused_then, then_survives}
use Rattle.ee_store_schema.proofs.Lemmas.Faults.{handed_on, each_fault}
use Rattle.ee_store_schema.proofs.making.make_register.Goals as goal

pub returns-clause-added : goal.returns-clause-added
returns-clause-added g c clean =
    let at_1 = state g.S.Store c.define_table.new.tx.conn.now in
    let at_2 = state g.S.Store c.define_table-2.new.tx.conn.now in
    let at_3 = state g.S.Store c.define_table-3.new.tx.conn.now in
    let at_4 = state g.S.Store c.define_index.new.tx.conn.now in
    let clean_4 = clean in
    let clean_3 = clean_before at_3 at_4 c.define_index.ensures.makes_inside.crash clean_4 in
    let clean_2 = clean_before at_2 at_3 c.define_table-3.ensures.makes_inside.crash clean_3 in
    let clean_1 = clean_before at_1 at_2 c.define_table-2.ensures.makes_inside.crash clean_2 in
    on_ok_weaker c.define_index.result (λ added sees_0.
    let sees_1 = c.in_ok-define_table.ensures.added clean_1 no_tables with_desk adds_desk sees_0 in
    let sees_2 = c.in_ok-define_table-2.ensures.added clean_2 with_desk with_rates adds_rates sees_1 in
    let sees_3 = c.in_ok-define_table-3.ensures.added clean_3 with_rates with_bonds adds_bonds sees_2 in
    added with_bonds register_tables adds_owner sees_3) (c.define_index.ensures.added clean)

pub returns-in_err-define_table-clause-usable : goal.returns-in_err-define_table-clause-usable
returns-in_err-define_table-clause-usable g c clean =
    let clean_1 = clean in
    handed_on _ c.from_residual.result c.in_err-define_table.field-0.0 c.from_residual.ensures.1 (λ sees_0 open_0.
    c.in_err-define_table.ensures.usable clean_1 no_tables with_desk adds_desk (λ o. (sees_0 o).0) open_0)

pub returns-in_err-define_table-2-clause-usable : goal.returns-in_err-define_table-2-clause-usable
returns-in_err-define_table-2-clause-usable g c clean =
    let at_1 = state g.S.Store c.define_table.new.tx.conn.now in
    let at_2 = state g.S.Store c.define_table-2.new.tx.conn.now in
    let clean_2 = clean in
    let clean_1 = clean_before at_1 at_2 c.define_table-2.ensures.makes_inside.crash clean_2 in
    handed_on _ c.from_residual-in_err-define_table-2.result c.in_err-define_table-2.field-0.0 c.from_residual-in_err-define_table-2.ensures.1 (λ sees_0 open_0.
    let sees_1 = c.in_ok-define_table.ensures.added clean_1 no_tables with_desk adds_desk sees_0 in
    let open_1 = c.in_ok-define_table.ensures.makes_inside.still_open clean_1 in
    c.in_err-define_table-2.ensures.usable clean_2 with_desk with_rates adds_rates (λ o. (sees_1 o).0) open_1)

pub returns-in_err-define_table-3-clause-usable : goal.returns-in_err-define_table-3-clause-usable
returns-in_err-define_table-3-clause-usable g c clean =
    let at_1 = state g.S.Store c.define_table.new.tx.conn.now in
    let at_2 = state g.S.Store c.define_table-2.new.tx.conn.now in
    let at_3 = state g.S.Store c.define_table-3.new.tx.conn.now in
    let clean_3 = clean in
    let clean_2 = clean_before at_2 at_3 c.define_table-3.ensures.makes_inside.crash clean_3 in
    let clean_1 = clean_before at_1 at_2 c.define_table-2.ensures.makes_inside.crash clean_2 in
    handed_on _ c.from_residual-in_err-define_table-3.result c.in_err-define_table-3.field-0.0 c.from_residual-in_err-define_table-3.ensures.1 (λ sees_0 open_0.
    let sees_1 = c.in_ok-define_table.ensures.added clean_1 no_tables with_desk adds_desk sees_0 in
    let sees_2 = c.in_ok-define_table-2.ensures.added clean_2 with_desk with_rates adds_rates sees_1 in
    let open_2 = c.in_ok-define_table-2.ensures.makes_inside.still_open clean_2 in
    c.in_err-define_table-3.ensures.usable clean_3 with_rates with_bonds adds_bonds (λ o. (sees_2 o).0) open_2)

pub returns-clause-usable : goal.returns-clause-usable
returns-clause-usable g c clean =
    let at_1 = state g.S.Store c.define_table.new.tx.conn.now in
    let at_2 = state g.S.Store c.define_table-2.new.tx.conn.now in
    let at_3 = state g.S.Store c.define_table-3.new.tx.conn.now in
    let at_4 = state g.S.Store c.define_index.new.tx.conn.now in
    let clean_4 = clean in
    let clean_3 = clean_before at_3 at_4 c.define_index.ensures.makes_inside.crash clean_4 in
    let clean_2 = clean_before at_2 at_3 c.define_table-3.ensures.makes_inside.crash clean_3 in
    let clean_1 = clean_before at_1 at_2 c.define_table-2.ensures.makes_inside.crash clean_2 in
    each_fault c.define_index.result (λ e usable sees_0 open_0.
    let sees_1 = c.in_ok-define_table.ensures.added clean_1 no_tables with_desk adds_desk sees_0 in
    let sees_2 = c.in_ok-define_table-2.ensures.added clean_2 with_desk with_rates adds_rates sees_1 in
    let sees_3 = c.in_ok-define_table-3.ensures.added clean_3 with_rates with_bonds adds_bonds sees_2 in
    let open_3 = c.in_ok-define_table-3.ensures.makes_inside.still_open clean_3 in
    usable with_bonds register_tables adds_owner sees_3 open_3) (c.define_index.ensures.usable clean)

pub returns-in_err-define_table-clause-cause : goal.returns-in_err-define_table-clause-cause
returns-in_err-define_table-clause-cause g c clean amid limit =
    let at_0 = state g.S.Store c.args.tx.now.conn.now in
    let at_1 = state g.S.Store c.define_table.new.tx.conn.now in
    handed_on (IsExcused at_0 at_1) c.from_residual.result c.in_err-define_table.field-0.0 c.from_residual.ensures.1 (c.in_err-define_table.ensures.cause no_tables with_desk adds_desk takes_desk clean (amid.0, λ o. (amid.1 o).0) limit)

pub returns-in_err-define_table-2-clause-cause : goal.returns-in_err-define_table-2-clause-cause
returns-in_err-define_table-2-clause-cause g c clean amid limit =
    let at_0 = state g.S.Store c.args.tx.now.conn.now in
    let at_1 = state g.S.Store c.define_table.new.tx.conn.now in
    let at_2 = state g.S.Store c.define_table-2.new.tx.conn.now in
    let clean_2 = clean in
    let clean_1 = clean_before at_1 at_2 c.define_table-2.ensures.makes_inside.crash clean_2 in
    let before_1 = c.define_table.ensures.makes_inside.crash in
    let sees_0 = amid.1 in
    let sees_1 = c.in_ok-define_table.ensures.added clean_1 no_tables with_desk adds_desk sees_0 in
    handed_on (IsExcused at_0 at_2) c.from_residual-in_err-define_table-2.result c.in_err-define_table-2.field-0.0 c.from_residual-in_err-define_table-2.ensures.1
    (excused_then at_0 at_1 at_2 before_1 c.define_table-2.ensures.makes_inside.crash clean _ (c.in_err-define_table-2.ensures.cause with_desk with_rates adds_rates takes_rates clean (c.in_ok-define_table.ensures.makes_inside.inside clean_1, (λ o. (sees_1 o).0)) (before_1.limit ∙ limit)))

pub returns-in_err-define_table-3-clause-cause : goal.returns-in_err-define_table-3-clause-cause
returns-in_err-define_table-3-clause-cause g c clean amid limit =
    let at_0 = state g.S.Store c.args.tx.now.conn.now in
    let at_1 = state g.S.Store c.define_table.new.tx.conn.now in
    let at_2 = state g.S.Store c.define_table-2.new.tx.conn.now in
    let at_3 = state g.S.Store c.define_table-3.new.tx.conn.now in
    let clean_3 = clean in
    let clean_2 = clean_before at_2 at_3 c.define_table-3.ensures.makes_inside.crash clean_3 in
    let clean_1 = clean_before at_1 at_2 c.define_table-2.ensures.makes_inside.crash clean_2 in
    let before_1 = c.define_table.ensures.makes_inside.crash in
    let before_2 = then_survives at_0 at_1 at_2 before_1 c.define_table-2.ensures.makes_inside.crash in
    let sees_0 = amid.1 in
    let sees_1 = c.in_ok-define_table.ensures.added clean_1 no_tables with_desk adds_desk sees_0 in
    let sees_2 = c.in_ok-define_table-2.ensures.added clean_2 with_desk with_rates adds_rates sees_1 in
    handed_on (IsExcused at_0 at_3) c.from_residual-in_err-define_table-3.result c.in_err-define_table-3.field-0.0 c.from_residual-in_err-define_table-3.ensures.1
    (excused_then at_0 at_2 at_3 before_2 c.define_table-3.ensures.makes_inside.crash clean _ (c.in_err-define_table-3.ensures.cause with_rates with_bonds adds_bonds takes_bonds clean (c.in_ok-define_table-2.ensures.makes_inside.inside clean_2, (λ o. (sees_2 o).0)) (before_2.limit ∙ limit)))

pub returns-clause-cause : goal.returns-clause-cause
returns-clause-cause g c clean amid limit =
    let at_0 = state g.S.Store c.args.tx.now.conn.now in
    let at_1 = state g.S.Store c.define_table.new.tx.conn.now in
    let at_2 = state g.S.Store c.define_table-2.new.tx.conn.now in
    let at_3 = state g.S.Store c.define_table-3.new.tx.conn.now in
    let at_4 = state g.S.Store c.define_index.new.tx.conn.now in
    let clean_4 = clean in
    let clean_3 = clean_before at_3 at_4 c.define_index.ensures.makes_inside.crash clean_4 in
    let clean_2 = clean_before at_2 at_3 c.define_table-3.ensures.makes_inside.crash clean_3 in
    let clean_1 = clean_before at_1 at_2 c.define_table-2.ensures.makes_inside.crash clean_2 in
    let before_1 = c.define_table.ensures.makes_inside.crash in
    let before_2 = then_survives at_0 at_1 at_2 before_1 c.define_table-2.ensures.makes_inside.crash in
    let before_3 = then_survives at_0 at_2 at_3 before_2 c.define_table-3.ensures.makes_inside.crash in
    let sees_0 = amid.1 in
    let sees_1 = c.in_ok-define_table.ensures.added clean_1 no_tables with_desk adds_desk sees_0 in
    let sees_2 = c.in_ok-define_table-2.ensures.added clean_2 with_desk with_rates adds_rates sees_1 in
    let sees_3 = c.in_ok-define_table-3.ensures.added clean_3 with_rates with_bonds adds_bonds sees_2 in
    each_fault c.define_index.result (excused_then at_0 at_3 at_4 before_3 c.define_index.ensures.makes_inside.crash clean) (c.define_index.ensures.cause with_bonds register_tables adds_owner takes_owner clean (c.in_ok-define_table-3.ensures.makes_inside.inside clean_3, sees_3) (before_3.limit ∙ limit))
