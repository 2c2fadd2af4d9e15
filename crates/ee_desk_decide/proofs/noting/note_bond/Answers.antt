use Rattle.ee_desk_model.proofs.Lemmas.Maps.{serials_total, serials_exact, map_with_one_more}
use Rattle.ee_desk_decide.proofs.noting.note_bond.Goals as goal

pub returns : goal.returns
returns c =
    map_with_one_more serials_total serials_exact c.args.found.now.entries c.insert.new.self.entries c.args.serial c.args.held.now c.in_ok-insert.ensures.updates.0
