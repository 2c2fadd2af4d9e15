use Rattle.std.proofs.Common.{rules}
use Rattle.ee_wire.proofs.writing.write_text.Goals as goal

pub returns-else-write_whole-clause-written : goal.returns-else-write_whole-clause-written
returns-else-write_whole-clause-written g c = search rules

pub returns-then-write_whole-clause-written : goal.returns-then-write_whole-clause-written
returns-then-write_whole-clause-written g c = search rules
