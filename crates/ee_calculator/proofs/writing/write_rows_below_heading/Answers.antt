use Rattle.ee_io.proofs.Lemmas.{second_after_whole, none_after_cut}
use Rattle.ee_calculator.proofs.writing.write_rows_below_heading.Goals as goal

pub returns-then-write_line-clause-written : goal.returns-then-write_line-clause-written
returns-then-write_line-clause-written g c = rw c.deref.ensures.value at (second_after_whole _ _ _ _ _ _ _ c.write_line.ensures.written c.if-write_line.true c.write_rows.ensures.written)

pub returns-else-write_line-clause-written : goal.returns-else-write_line-clause-written
returns-else-write_line-clause-written g c = none_after_cut _ _ _ _ _ c.write_line.ensures.written c.if-write_line.false
