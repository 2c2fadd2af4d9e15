use Rattle.std.proofs.Common.{sym, ap, ◌∙◌, ◌+◌, length, subst, rules, refl}
use Rattle.std.specs.List.{list_any}
use Rattle.std.specs.Option.{option_map}
use Rattle.ee_desk_model.specs.Serials.{same_serial}
use Rattle.ee_desk_model.specs.PlainBooks.{PlainBooks}
use Rattle.ee_desk.specs.Inner.Marks.{held_at, marked}
use Rattle.ee_desk_decide.specs.Inner.Applicable.{IsNextTicket}
use Rattle.ee_desk.proofs.PaidMarks.{ticket_kept}
use Rattle.ee_desk.proofs.Counts.{counts_more}
use Rattle.ee_desk.proofs.ledger.Ledger.add_ticket.Goals as goal

pub invariant_of-self-2 : goal.invariant_of-self-2
invariant_of-self-2 c =
    let next = subst (λ (b : PlainBooks). IsNextTicket b c.args.ticket.now) (sym c.self.view_is) c.requires in (
      ticket_kept c.self.inside.bonds.entries c.mark_all.new.bonds.entries c.self.inside.tickets.items c.push.new.self.items c.args.ticket.now c.self.invariant.0
          next.0 (search rules) (λ q. c.mark_all.ensures.marked q
          ∙ ap (λ ls. option_map (marked (list_any (λ line. same_serial q line.serial) ls) c.args.ticket.now.ticket) (held_at c.self.inside.bonds.entries q)) c.as_slice.ensures),
      counts_more c.self.inside.day c.self.inside.tickets.items c.push.new.self.items c.args.ticket.now c.self.inside.counts
          (record { tickets = c.self.inside.counts.tickets + 1; bonds = c.self.inside.counts.bonds + length c.as_slice-2.result.now; total = record { 0 = c.self.inside.counts.total.0 + c.args.ticket.now.total.0 } })
          c.self.invariant.1 next.1 (search rules) refl (ap (λ ls. c.self.inside.counts.bonds + length ls) c.as_slice-2.ensures) refl,
    )

pub returns-clause-ok : goal.returns-clause-ok
returns-clause-ok c = search rules
