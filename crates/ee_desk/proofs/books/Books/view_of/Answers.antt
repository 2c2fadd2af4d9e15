use Rattle.std.proofs.Common.{arith}
use Rattle.ee_desk_model.proofs.Lemmas.Books.{few_tickets}
use Rattle.ee_desk.proofs.books.Books.view_of.Goals as goal

pub view_of-requires : goal.view_of-requires
view_of-requires c = let few = few_tickets c.self.inside.ledger c.self.invariant in omega (arith, few)
