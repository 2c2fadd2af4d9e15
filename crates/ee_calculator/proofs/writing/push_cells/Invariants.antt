use Rattle.std.proofs.Common.{take, length, ◌≡◌, ◌≤◌, ◌*◌}
use Rattle.std.specs.List.{flat_map}
use Rattle.ee_calculator.specs.Sheets.{placed}
use Rattle.ee_calculator.specs.Inner.Lines.{cell_of}
use Rattle.ee_calculator.proofs.writing.push_cells.Given as goal

abbrev pub invariant-loop-column : goal.invariant-loop-column
invariant-loop-column l = (l.text.bytes ≡ flat_map (λ k. placed k (cell_of l.fn.line k)) (take l.column-index l.fn.columns)) × (length l.text.bytes ≤ 45 * l.column-index)
