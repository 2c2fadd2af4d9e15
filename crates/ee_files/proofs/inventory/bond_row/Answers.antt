use Rattle.std.proofs.Common.{rules}
use Rattle.ee_files.specs.BondFile.{bond_entry}
use Rattle.ee_files.proofs.inventory.bond_row.Goals as goal

pub returns-clause-gives : goal.returns-clause-gives
unfolding bond_entry
returns-clause-gives c = search rules
