use Rattle.std.proofs.Common.{rules, ◌≡◌, sym, ap, ◌∙◌}
use Rattle.ee_desk_model.specs.Seen.{held_of}
use Rattle.ee_desk.specs.Inner.Marks.{held_at}
use Rattle.ee_desk.proofs.HeldBonds.{held_is}
use Rattle.ee_desk.proofs.ledger.Ledger.held.Goals as goal

pub returns : goal.returns
returns c =
    let e : c.copied.result ≡ held_at c.self.inside.bonds.entries c.args.serial = search rules in
    e ∙ sym (held_is c.self.inside.bonds.entries c.self.inside.tickets.items c.args.serial (c.self.invariant.0 c.args.serial)) ∙ ap (λ b. held_of b c.args.serial) c.self.view_is
