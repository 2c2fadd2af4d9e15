use Rattle.std.proofs.Common.{◌≡◌, length, arith, ap}
use Rattle.ee_desk_model.specs.Views.{PlainView, needed_of}
use Rattle.ee_desk_model.proofs.Lemmas.Books.{few_tickets, needed_few}
use Rattle.ee_desk_decide.proofs.views.View.from_parts.Goals as goal

pub returns-else-parts-le-MOST_TICKETS-clause-fits : goal.returns-else-parts-le-MOST_TICKETS-clause-fits
returns-else-parts-le-MOST_TICKETS-clause-fits c = λ books asked sound is.
    let few = few_tickets books sound in
    let same : c.args.parts.tickets ≡ length books.tickets = ap (λ (v : PlainView). v.tickets) is in
    let many = c.if-parts-le-MOST_TICKETS.false in
    absurd (omega (arith, few, same, many))

pub returns-else-parts-le-MOST_TICKETS-clause-needed : goal.returns-else-parts-le-MOST_TICKETS-clause-needed
returns-else-parts-le-MOST_TICKETS-clause-needed c = λ books asked sound is.
    let few = few_tickets books sound in
    let less = needed_few books asked in
    let same : c.args.parts.tickets ≡ (needed_of books asked).tickets = ap (λ (v : PlainView). v.tickets) is in
    let many = c.if-parts-le-MOST_TICKETS.false in
    absurd (omega (arith, few, less, same, many))
