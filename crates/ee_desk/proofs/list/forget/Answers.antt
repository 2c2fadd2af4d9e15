use Rattle.ee_desk_model.proofs.Lemmas.Maps.{numbers_total, numbers_exact}
use Rattle.ee_desk.proofs.Added.{taken_out}
use Rattle.ee_desk.proofs.list.forget.Goals as goal

pub returns : goal.returns
returns c = taken_out numbers_total numbers_exact _ _ _ c.remove.ensures.updates.0
