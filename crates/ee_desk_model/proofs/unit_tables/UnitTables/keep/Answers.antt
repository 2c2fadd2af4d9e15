use Rattle.std.proofs.Common.{sym, subst}
use Rattle.ee_desk_model.specs.UnitTables.{tables_in, AreOwn}
use Rattle.ee_desk_model.proofs.KeptTables.{kept_again, own_more, there}
use Rattle.ee_desk_model.proofs.unit_tables.UnitTables.keep.Goals as goal

pub returns-in-Some-clause-ok : goal.returns-in-Some-clause-ok
returns-in-Some-clause-ok c =
    kept_again c.args.self.now c.args.terms.now
    (there c.args.self.now c.rates.result c.args.terms.now c.in_ok-kept.field-0 c.in-Some.kept c.in-Some.is c.in_ok-kept.ensures.value c.in_ok-kept.ensures.own c.rates.ensures.value)

pub invariant_of-self-2 : goal.invariant_of-self-2
invariant_of-self-2 c =
    subst AreOwn (sym c.in_ok-put.ensures.ok)
    (own_more (tables_in c.self.inside.kept.entries) c.args.terms.now c.self.invariant)
