use Rattle.std.proofs.Common.{arith}
use Rattle.ee_desk_model.proofs.Lemmas.Books.{few_tickets}
use Rattle.ee_store_queries.proofs.FoundTickets.{beyond_last}
use Rattle.ee_store_queries.proofs.queries.none_beyond.Goals as goal

pub returns-then-count-number-clause-found : goal.returns-then-count-number-clause-found
returns-then-count-number-clause-found g c clean inside S sees =
    beyond_last S c.args.number c.in_ok-count.count sees.right (c.in_ok-count.ensures.found clean inside S sees) c.if-count-number.true

pub returns-else-count-number-clause-cause : goal.returns-else-count-number-clause-cause
returns-else-count-number-clause-cause g c clean inside endless S sees beyond =
    let few = few_tickets S.books sees.right.sound in
    let is = c.in_ok-count.ensures.found clean inside S sees in
    absurd (omega (arith, few, is, beyond, c.if-count-number.false))
