use Rattle.ee_calculator.specs.Sheets.{line, row_cell}
use Rattle.ee_io.proofs.Lemmas.{next_piece_written, next_piece_cut, all_pieces_written}
use Rattle.ee_calculator.proofs.writing.write_rows.Goals as goal

pub loop-row-preserved : goal.loop-row-preserved
loop-row-preserved g c =
    next_piece_written _ _ _ (λ r. line (row_cell r)) c.args.rows.now c.loop-row.row-index c.row-item.result c.row-item.result c.write_line.result c.loop-row-test.true c.row-item.is c.loop-row.invariant c.write_line.ensures.written c.if-not-write_line.false

pub returns-then-not-write_line-clause-written : goal.returns-then-not-write_line-clause-written
returns-then-not-write_line-clause-written g c =
    next_piece_cut _ _ _ (λ r. line (row_cell r)) c.args.rows.now c.loop-row.row-index c.row-item.result c.row-item.result c.write_line.result c.loop-row-test.true c.row-item.is c.loop-row.invariant c.write_line.ensures.written c.if-not-write_line.true

pub returns-clause-written : goal.returns-clause-written
returns-clause-written g c = all_pieces_written _ _ (λ r. line (row_cell r)) c.args.rows.now c.loop-row.row-index c.loop-row-test.false c.loop-row.invariant
