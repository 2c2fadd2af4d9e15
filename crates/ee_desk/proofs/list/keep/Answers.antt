use Rattle.ee_desk_model.proofs.Lemmas.Maps.{map_with_one_more, numbers_total, numbers_exact}
use Rattle.ee_desk.proofs.list.keep.Goals as goal

pub returns-clause-ok : goal.returns-clause-ok
returns-clause-ok c = map_with_one_more numbers_total numbers_exact _ _ _ _ c.in_ok-insert.ensures.updates.0
