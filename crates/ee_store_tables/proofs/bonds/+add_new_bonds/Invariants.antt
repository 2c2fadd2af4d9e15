use Rattle.std.proofs.Common.{length}
use Rattle.ee_store_tables.proofs.bonds.+add_new_bonds.Given as goal

-- proposed from what the function passes when it calls itself
abbrev pub decreases-add_new_bonds : goal.decreases-add_new_bonds
decreases-add_new_bonds g l = length l.bonds.now
