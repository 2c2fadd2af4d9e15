use Rattle.ee_desk_model.proofs.Inventories.{own_alone}
use Rattle.ee_desk_model.proofs.laws.shows_own_bonds_alone_law.Goals as goal

pub returns : goal.returns
returns c = own_alone
