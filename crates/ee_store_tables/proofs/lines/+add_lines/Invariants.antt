use Rattle.std.proofs.Common.{length}
use Rattle.ee_store_tables.proofs.lines.+add_lines.Given as goal

-- proposed from what the function passes when it calls itself
abbrev pub decreases-add_lines : goal.decreases-add_lines
decreases-add_lines g l = length l.lines.now
