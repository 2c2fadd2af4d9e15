use Rattle.std.proofs.Common.{◌∙◌}
use Rattle.std.specs.FinMap as finite
use Rattle.ee_desk_model.specs.UnitTables.{tables_in}
use Rattle.ee_desk_model.proofs.Maps.{one_more}
use Rattle.ee_desk_model.proofs.KeptTables.{rates_total, exact_rates}
use Rattle.ee_desk_model.proofs.unit_tables.put.Goals as goal

pub returns-clause-ok : goal.returns-clause-ok
returns-clause-ok c =
    one_more rates_total exact_rates _ _ _ _ c.in_ok-insert.ensures.updates.0
    ∙ (λ i. finite.insert (tables_in c.args.kept.now.entries) (c.rates.ensures.value i) (c.in_ok-share.ensures i))
