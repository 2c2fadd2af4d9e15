use Rattle.std.proofs.Common.{refl}
use Rattle.ee_desk_model.proofs.KeptTables.{kept_again, there}
use Rattle.ee_desk_model.proofs.unit_tables.UnitTables.add.Goals as goal

pub returns-in-Some-clause-ok : goal.returns-in-Some-clause-ok
returns-in-Some-clause-ok c =
    kept_again c.args.self.now c.args.rates
    (there c.args.self.now c.args.rates c.args.rates c.in_ok-terms.field-0 c.in-Some.terms c.in-Some.is c.in_ok-terms.ensures.value c.in_ok-terms.ensures.own refl)
