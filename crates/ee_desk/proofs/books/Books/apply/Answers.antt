use Rattle.std.proofs.Common.{subst, sym, ◌≡◌}
use Rattle.std.specs.Prelude.{List, OnOk}
use Rattle.std.specs.List.{AllByRecursion}
use Rattle.ee_desk_model.specs.declared.changes.Change.{Change}
use Rattle.ee_desk_model.specs.PlainBooks.{PlainBooks}
use Rattle.ee_desk_model.specs.Acts.{applied}
use Rattle.ee_desk_model.specs.Ranges.{IsInRange}
use Rattle.ee_desk_decide.specs.Inner.Applicable.{AreApplicable}
use Rattle.ee_desk_decide.proofs.Lemmas.{AreDecided, decided_are_applicable, decided_keep_sound}
use Rattle.ee_desk.proofs.books.Books.apply.Goals as goal

pub apply-requires : goal.apply-requires
apply-requires c =
    let decided = subst (λ (b : PlainBooks). AreDecided b c.args.effects.now) (sym c.self.view_is) c.requires in
    let ranges = subst (AllByRecursion IsInRange) c.as_slice.ensures c.in_range.ensures in
    subst (AreApplicable c.self.inside.ledger) (sym c.as_slice-2.ensures) (decided_are_applicable c.self.inside.ledger c.args.effects.now c.self.invariant ranges decided)

pub invariant_of-self : goal.invariant_of-self
invariant_of-self c =
    let decided = subst (λ (b : PlainBooks). AreDecided b c.args.effects.now) (sym c.self.view_is) c.requires in
    let ranges = subst (AllByRecursion IsInRange) c.as_slice.ensures c.in_range.ensures in
    decided_keep_sound c.apply.result c.self.inside.ledger c.apply.new.self c.args.effects.now ranges decided
    (subst (λ (cs : List Change). OnOk c.apply.result (c.apply.new.self ≡ applied c.self.inside.ledger cs)) c.as_slice-2.ensures c.apply.ensures.ok) c.apply.ensures.err c.self.invariant
