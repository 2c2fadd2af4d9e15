use Rattle.std.proofs.Common.{ap, ◌∙◌}
use Rattle.ee_desk_soundness.specs.Parts.{parts_of}
use Rattle.ee_desk.proofs.AsParts.{as_parts}
use Rattle.ee_desk.proofs.ledger.Ledger.parts.Goals as goal

pub returns : goal.returns
returns c =
    as_parts c.self.inside.rates.entries c.self.inside.bonds.entries c.self.inside.day c.self.inside.last_day c.self.inside.tickets.items c.self.inside.batches.items
    c.new.result c.new-2.result c.new-3.result c.new-4.result c.in_ok-rates.ensures.ordered c.in_ok-bonds.ensures.ordered
    (c.new.ensures ∙ c.in_ok-rates.ensures.rows) (c.new-2.ensures ∙ c.in_ok-bonds.ensures.bonds)
    (c.new-3.ensures ∙ c.in_ok-tickets.ensures ∙ c.as_slice.ensures.value) (c.new-4.ensures ∙ c.in_ok-batches.ensures.items ∙ c.as_slice-2.ensures.value)
    ∙ ap parts_of c.self.view_is
