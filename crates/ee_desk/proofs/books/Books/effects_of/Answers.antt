use Rattle.std.proofs.Common.{arith, ap, sym, ◌∙◌}
use Rattle.ee_desk_model.specs.PlainBooks.{PlainBooks}
use Rattle.ee_desk_model.specs.Views.{PlainView, needed_of, shown_by}
use Rattle.ee_desk_model.specs.Effects.{effects_of}
use Rattle.ee_desk_model.proofs.Lemmas.Books.{few_tickets, seen_enough, needed_enough}
use Rattle.ee_desk.proofs.books.Books.effects_of.Goals as goal

pub needed_of-requires : goal.needed_of-requires
needed_of-requires c = let few = few_tickets c.self.inside.ledger c.self.invariant in omega (arith, few)

pub returns : goal.returns
returns c =
    c.in_ok-effects.ensures
    ∙ ap (λ (v : PlainView). effects_of (shown_by v) c.args.act.now) (c.in_ok-view.ensures ∙ ap (λ (b : PlainBooks). needed_of b c.args.act.now) c.self.view_is)
    ∙ needed_enough c.args.self.now c.args.act.now ∙ sym (seen_enough c.args.self.now c.args.act.now)
