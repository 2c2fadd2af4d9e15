use Rattle.std.proofs.Common.{length}
use Rattle.ee_store_tables.proofs.lines.+mark_lines.Given as goal

-- proposed from what the function passes when it calls itself
abbrev pub decreases-mark_lines : goal.decreases-mark_lines
decreases-mark_lines g l = length l.lines.now
