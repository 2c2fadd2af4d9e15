use Rattle.ee_files.specs.BondFile.{bond_entry}
use Rattle.ee_files.specs.RateFile.{rate_entry}
use Rattle.ee_files.proofs.InOrder.{in_order}
use Rattle.ee_files.proofs.laws.rows_law.Goals as goal

pub returns : goal.returns
returns c = record { rates = λ width. in_order (rate_entry width) 2 501; bonds = in_order bond_entry 2 501 }
