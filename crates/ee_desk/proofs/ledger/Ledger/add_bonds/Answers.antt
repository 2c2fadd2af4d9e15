use Rattle.std.proofs.Common.{sym, ap, ◌∙◌, subst}
use Rattle.std.specs.List.{AllByRecursion}
use Rattle.std.proofs.lemmas.Result.{on_ok_weaker, on_err_weaker}
use Rattle.ee_desk_model.specs.PlainBooks.{PlainBooks}
use Rattle.ee_desk.specs.Inner.Marks.{AreMarked}
use Rattle.ee_desk.specs.Inner.Kept.{books_of}
use Rattle.ee_desk_decide.specs.Inner.NewRows.{bond_row, AreNew}
use Rattle.ee_desk.specs.Inner.Added.{with_changes}
use Rattle.ee_desk_decide.specs.Inner.Applicable.{IsUnpaid}
use Rattle.ee_desk.proofs.Outcomes.{either_way}
use Rattle.ee_desk.proofs.Registered.{new_in_memory, bonds_gain, bonds_stay, marks_gain, marks_stay}
use Rattle.ee_desk.proofs.ledger.Ledger.add_bonds.Goals as goal

pub add_bonds-requires : goal.add_bonds-requires
add_bonds-requires c = new_in_memory c.self.inside.bonds.entries c.args.changes.now (subst (λ (b : PlainBooks). AreNew bond_row b.bonds c.args.changes.now) (sym c.self.view_is) c.requires.fresh)

pub invariant_of-self : goal.invariant_of-self
invariant_of-self c =
    let old : PlainBooks = books_of c.self.inside.rates.entries c.self.inside.bonds.entries c.self.inside.day c.self.inside.last_day c.self.inside.tickets.items c.self.inside.batches.items in
    let unpaid = subst (λ (b : PlainBooks). AllByRecursion (IsUnpaid b) c.args.changes.now) (sym c.self.view_is) c.requires.unpaid in (
      either_way {R = AreMarked c.add_bonds.new.bonds.entries c.self.inside.tickets.items} c.add_bonds.result
          (λ is. marks_gain old c.self.inside.bonds.entries c.add_bonds.new.bonds.entries c.args.changes.now c.self.invariant.0 unpaid is)
          (λ is. marks_stay c.self.inside.tickets.items c.self.inside.bonds.entries c.add_bonds.new.bonds.entries c.self.invariant.0 is)
          c.add_bonds.ensures.ok c.add_bonds.ensures.err,
      c.self.invariant.1,
    )

pub returns-clause-ok : goal.returns-clause-ok
returns-clause-ok c =
    let old : PlainBooks = books_of c.self.inside.rates.entries c.self.inside.bonds.entries c.self.inside.day c.self.inside.last_day c.self.inside.tickets.items c.self.inside.batches.items in
    on_ok_weaker c.add_bonds.result
    (λ is. (λ i. record old { bonds = bonds_gain c.self.inside.bonds.entries c.add_bonds.new.bonds.entries c.args.changes.now is i })
    ∙ ap (λ (b : PlainBooks). record b { bonds = with_changes bond_row b.bonds c.args.changes.now }) c.self.view_is)
    c.add_bonds.ensures.ok

pub returns-clause-err : goal.returns-clause-err
returns-clause-err c =
    let old : PlainBooks = books_of c.self.inside.rates.entries c.self.inside.bonds.entries c.self.inside.day c.self.inside.last_day c.self.inside.tickets.items c.self.inside.batches.items in
    on_err_weaker c.add_bonds.result
    (λ is. (λ i. record old { bonds = bonds_stay c.self.inside.bonds.entries c.add_bonds.new.bonds.entries is i }) ∙ c.self.view_is)
    c.add_bonds.ensures.err
