use Rattle.std.proofs.Common.{ap, sym, ◌∙◌}
use Rattle.ee_desk_model.proofs.Lemmas.Maps.{serials_exact, serials_total, map_with_one_more}
use Rattle.ee_desk_decide.specs.Noted.{held_in}
use Rattle.ee_desk.specs.Inner.Added.{held_row}
use Rattle.ee_desk_decide.specs.Inner.NewRows.{with_row}
use Rattle.ee_desk.proofs.additions.add_bond.Goals as goal

pub returns-in_ok-insert-clause-ok : goal.returns-in_ok-insert-clause-ok
returns-in_ok-insert-clause-ok c =
    map_with_one_more serials_total serials_exact _ _ _ _ c.in_ok-insert.ensures.updates.0 ∙ ap (λ x. with_row (held_in c.args.bonds.now.entries) (held_row x)) (sym c.in-Bond.is)
