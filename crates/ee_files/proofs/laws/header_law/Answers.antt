use Rattle.ee_files.proofs.InOrder.{same_decides}
use Rattle.ee_files.proofs.laws.header_law.Goals as goal

pub returns : goal.returns
returns c = same_decides
