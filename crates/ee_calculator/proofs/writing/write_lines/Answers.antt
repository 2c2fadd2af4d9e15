use Rattle.ee_calculator.specs.Sheets.{sheet_text}
use Rattle.ee_io.proofs.Lemmas.{second_after_whole, none_after_cut}
use Rattle.ee_calculator.proofs.writing.write_lines.Goals as goal

pub returns-then-write_rows_below_heading-clause-written : goal.returns-then-write_rows_below_heading-clause-written
unfolding sheet_text
returns-then-write_rows_below_heading-clause-written g c = second_after_whole _ _ _ _ _ _ _ c.write_rows_below_heading.ensures.written c.if-write_rows_below_heading.true c.write_line.ensures.written

pub returns-else-write_rows_below_heading-clause-written : goal.returns-else-write_rows_below_heading-clause-written
unfolding sheet_text
returns-else-write_rows_below_heading-clause-written g c = none_after_cut _ _ _ _ _ c.write_rows_below_heading.ensures.written c.if-write_rows_below_heading.false
