use Rattle.std.proofs.Common.{rules, ◌<◌, length, subst, ◌∙◌}
use Rattle.std.proofs.lemmas.Result.{on_ok_weaker}
use Rattle.ee_desk.proofs.Applied.{FirstSays, first_says, rates_applied, bonds_applied}
use Rattle.ee_desk.proofs.ledger.Ledger.apply.Goals as goal

pub returns-in-Rates-clause-ok : goal.returns-in-Rates-clause-ok
returns-in-Rates-clause-ok c =
    let some : 0 < length c.args.changes.now = search rules in
    let says = subst (FirstSays c.args.self.now c.args.changes.now) c.in-Rates.is (first_says c.args.self.now c.args.changes.now c.index-changes-0.result c.requires some c.index-changes-0.is) in
    on_ok_weaker c.add_rates.result (λ is. is ∙ rates_applied c.args.self.now c.args.changes.now says.0) c.add_rates.ensures.ok

pub returns-in-Bond-clause-ok : goal.returns-in-Bond-clause-ok
returns-in-Bond-clause-ok c =
    let some : 0 < length c.args.changes.now = search rules in
    let says = subst (FirstSays c.args.self.now c.args.changes.now) c.in-Bond.is (first_says c.args.self.now c.args.changes.now c.index-changes-0.result c.requires some c.index-changes-0.is) in
    on_ok_weaker c.add_bonds.result (λ is. is ∙ bonds_applied c.args.self.now c.args.changes.now says.0) c.add_bonds.ensures.ok
