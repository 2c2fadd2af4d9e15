use Rattle.std.proofs.Common.{subst, sym, ◌≡◌, ◌∙◌, ap}
use Rattle.std.specs.Option.{IfSome}
use Rattle.ee_desk_model.specs.PlainBooks.{PlainBooks, batch_of}
use Rattle.ee_desk_model.specs.Queries.{batch_on}
use Rattle.ee_desk.proofs.Batches.{found_is_right}
use Rattle.ee_desk.proofs.books.Books.batch.Goals as goal

pub returns-clause-sums : goal.returns-clause-sums
returns-clause-sums c =
    let right = found_is_right c.self.inside.ledger.tickets c.args.day c.self.inside.ledger.batches c.self.invariant.batches in
    let here = subst (λ (b : PlainBooks). IfSome (batch_on b c.args.day) (λ batch. batch ≡ batch_of c.args.day b.tickets)) c.self.view_is right in
    subst (λ o. IfSome o (λ batch. batch ≡ batch_of c.args.day c.args.self.now.tickets)) (sym (c.batch.ensures ∙ ap (λ b. batch_on b c.args.day) c.self.view_is)) here
