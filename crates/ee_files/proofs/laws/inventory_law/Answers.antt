use Rattle.ee_files.proofs.BondsBack.{inventory_back}
use Rattle.ee_files.proofs.laws.inventory_law.Goals as goal

pub returns : goal.returns
returns c = inventory_back
