use Rattle.std.proofs.Common.{length}
use Rattle.ee_store_tables.proofs.bonds.+add_each.Given as goal

-- proposed from what the function passes when it calls itself
abbrev pub decreases-add_each : goal.decreases-add_each
decreases-add_each g l = length l.bonds.now
