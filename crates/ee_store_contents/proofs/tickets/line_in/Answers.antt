use Rattle.std.proofs.Common.{rules}
use Rattle.ee_store_contents.proofs.tickets.line_in.Goals as goal

pub returns-then-row-place : goal.returns-then-row-place
returns-then-row-place c = search rules
