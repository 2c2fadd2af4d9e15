use Rattle.std.proofs.Common.{ap, sym, ◌∙◌}
use Rattle.ee_desk_model.proofs.Lemmas.Maps.{serials_exact, serials_total}
use Rattle.ee_desk_decide.specs.Noted.{held_in}
use Rattle.ee_desk.specs.Inner.Added.{held_row, without_row}
use Rattle.ee_desk.proofs.Added.{taken_out}
use Rattle.ee_desk.proofs.additions.take_bond.Goals as goal

pub returns-in-Bond : goal.returns-in-Bond
returns-in-Bond c =
    taken_out serials_total serials_exact _ _ _ c.remove.ensures.updates.0 ∙ ap (λ x. without_row (held_in c.args.bonds.now.entries) (held_row x)) (sym c.in-Bond.is)
