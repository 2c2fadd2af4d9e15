-- The lines of a sheet.
use Rattle.std.specs.Prelude.{ℕ, List}
use Rattle.ee_calculator.specs.Sheets.{heading, row_cell, total_cell}
use Rattle.ee_calculator.specs.declared.columns.Column.{Column}
use Rattle.ee_calculator.specs.declared.writing.SheetLine.{SheetLine}
use Rattle.ee_calculator.specs.declared.writing.SheetLine.TheVariants as line

-- the text of a line in a column
abbrev pub cell_of : SheetLine → Column → List ℕ
cell_of line.Heading c = heading c
cell_of (line.Row row) c = row_cell row.now c
cell_of (line.Totals sheet) c = total_cell sheet.now c
