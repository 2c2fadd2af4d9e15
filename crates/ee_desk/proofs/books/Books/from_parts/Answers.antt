use Rattle.std.proofs.Common.{map, sym, ap, ◌∙◌, subst}
use Rattle.ee_desk_model.specs.Sound.{IsSound}
use Rattle.ee_desk_decide.specs.declared.views.DayCounts.{DayCounts}
use Rattle.ee_desk_soundness.specs.Checks.{HaveRisingSerials}
use Rattle.ee_desk_soundness.specs.Marks.{bond_of}
use Rattle.ee_desk_soundness.specs.Parts.{parts_of}
use Rattle.ee_desk_soundness.proofs.Lemmas.{parts_of-books_of}
use Rattle.ee_desk.specs.Inner.Marks.{by_serial, AreMarked}
use Rattle.ee_desk.specs.Parts.{as_lists}
use Rattle.ee_desk.proofs.HeldRows.{bonds_back, entries_marked, books_made}
use Rattle.ee_desk.proofs.books.Books.from_parts.Goals as goal

pub of_parts-requires-clause-rising : goal.of_parts-requires-clause-rising
of_parts-requires-clause-rising c =
    let same = ap (map bond_of) (c.as_slice.ensures.value ∙ c.in_ok-own.ensures.rows) ∙ bonds_back c.args.parts.tickets c.args.parts.bonds in
    subst HaveRisingSerials (sym same) c.in_ok-own.ensures.ok.sound.serials

pub of_parts-requires-clause-marked : goal.of_parts-requires-clause-marked
of_parts-requires-clause-marked c =
    subst (λ rows. AreMarked (by_serial rows) c.args.parts.tickets) (sym (c.as_slice.ensures.value ∙ c.in_ok-own.ensures.rows)) (entries_marked c.args.parts.tickets c.args.parts.bonds)

pub of_parts-requires-clause-counted : goal.of_parts-requires-clause-counted
of_parts-requires-clause-counted c =
    let is = c.in_ok-own.ensures.ok.counted in
    (ap (λ (d : DayCounts). d.tickets) is, ap (λ (d : DayCounts). d.bonds) is, ap (λ (d : DayCounts). d.total.0) is)

pub invariant_of-result : goal.invariant_of-result
invariant_of-result c =
    let made = c.in_ok-own.ensures.ok in
    subst IsSound (sym (c.in_ok-ledger.ensures ∙ books_made (as_lists c.args.parts) _ _ made.rates (c.as_slice.ensures.value ∙ c.in_ok-own.ensures.rows))) made.sound.books

pub returns-clause-ok : goal.returns-clause-ok
returns-clause-ok c =
    let made = c.in_ok-own.ensures.ok in
    ap parts_of (c.in_ok-ledger.ensures ∙ books_made (as_lists c.args.parts) _ _ made.rates (c.as_slice.ensures.value ∙ c.in_ok-own.ensures.rows))
    ∙ parts_of-books_of (as_lists c.args.parts) made.sound.months made.sound.serials
