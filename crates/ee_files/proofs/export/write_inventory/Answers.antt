use Rattle.std.proofs.Common.{◌∙◌}
use Rattle.ee_files.proofs.RowsWritten.{written_as}
use Rattle.ee_files.proofs.export.write_inventory.Goals as goal

pub returns-then-write_whole-clause-writes : goal.returns-then-write_whole-clause-writes
returns-then-write_whole-clause-writes g c = written_as _ _ _ _ _ _ (c.deref.ensures.value ∙ c.in_ok-text.ensures.ok) c.if-write_whole.true c.write_whole.ensures.written

pub returns-clause-writes : goal.returns-clause-writes
returns-clause-writes g c = written_as _ _ _ _ _ _ (c.deref.ensures.value ∙ c.in_ok-text.ensures.ok) c.if-write_whole.false c.write_whole.ensures.written
