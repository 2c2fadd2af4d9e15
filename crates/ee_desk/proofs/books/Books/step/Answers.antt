use Rattle.std.proofs.Common.{ap, ◌∙◌}
use Rattle.ee_desk_model.specs.declared.changes.Effects.{Effects}
use Rattle.ee_desk_model.specs.Acts.{applied}
use Rattle.ee_desk_model.proofs.Lemmas.Books.{seen_enough, applied_are_books_after}
use Rattle.ee_desk.proofs.books.Books.step.Goals as goal

pub returns-clause-reply : goal.returns-clause-reply
returns-clause-reply c = ap (λ (e : Effects). e.reply) (c.in_ok-effects.ensures ∙ seen_enough c.args.self.now c.args.act.now)

pub returns-clause-books : goal.returns-clause-books
returns-clause-books c =
    c.in_ok-apply.ensures.ok
    ∙ ap (λ (e : Effects). applied c.args.self.now e.changes) c.in_ok-effects.ensures
    ∙ applied_are_books_after c.args.self.now c.args.act.now

pub apply-requires : goal.apply-requires
apply-requires c = (c.args.act.now, c.in_ok-effects.ensures)
