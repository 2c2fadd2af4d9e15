use Rattle.std.proofs.Common.{sym, ap, ◌∙◌, subst}
use Rattle.std.proofs.lemmas.Result.{IfOk-weaker}
use Rattle.ee_desk_model.specs.Queries.{bonds_of}
use Rattle.ee_desk.specs.Inner.Kept.{AreKeyed}
use Rattle.ee_desk.proofs.OwnBonds.{own_is}
use Rattle.ee_desk.proofs.ledger.Ledger.bonds_of.Goals as goal

pub returns : goal.returns
returns c =
    let keyed = subst AreKeyed (sym c.self.view_is) c.requires in
    IfOk-weaker c.own_bonds.result _ _
    (λ v is. is ∙ own_is c.self.inside.tickets.items c.args.customer c.self.inside.bonds.entries c.own_bonds.ensures.ordered c.self.invariant.0 keyed
    ∙ ap (λ b. bonds_of b c.args.customer) c.self.view_is)
    c.own_bonds.ensures.own
