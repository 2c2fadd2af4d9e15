use Rattle.std.proofs.Common.{◌∙◌}
use Rattle.ee_desk_model.proofs.Lemmas.Maps.{serials_exact, serials_total}
use Rattle.ee_desk_decide.specs.Noted.{held_in}
use Rattle.ee_desk.specs.Inner.Added.{held_row}
use Rattle.ee_desk.proofs.Added.{woven, taken_back}
use Rattle.ee_desk.proofs.additions.add_bonds.Goals as goal

pub returns-in-Ok-clause-ok : goal.returns-in-Ok-clause-ok
returns-in-Ok-clause-ok c = c.in-Ok.ensures.ok ∙ woven serials_total serials_exact held_row (held_in c.args.bonds.now.entries) c.args.changes.now c.requires

pub returns-in-Err-clause-err : goal.returns-in-Err-clause-err
returns-in-Err-clause-err c =
    c.take_bonds.ensures ∙ taken_back serials_total serials_exact held_row (held_in c.args.bonds.now.entries) (held_in c.add_in_turns.new.bonds.entries) c.args.changes.now c.requires c.in-Err.ensures.err
