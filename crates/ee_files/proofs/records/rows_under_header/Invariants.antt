use Rattle.std.proofs.Common.{◌≡◌, ◌+◌, ◌-◌, List, ℕ, length}
use Rattle.ee_files.specs.Rows.{rows_from}
use Rattle.ee_files.specs.Inner.Left.{HasLeft}
use Rattle.ee_files.proofs.Entries.{with_front}
use Rattle.ee_files.proofs.records.rows_under_header.Given as goal

-- the rows so far, and those of what is left, are those of the whole
abbrev pub invariant-loop-row : goal.invariant-loop-row
invariant-loop-row g l = record {
  count : length l.rows.items + 2 ≡ l.row;
  left : (all : List (List (List ℕ))) → HasLeft l.fn.records all
      → (rest : List (List (List ℕ))) × HasLeft l.records rest × (with_front l.rows.items (rows_from (g.T.FileRow.entry l.fn.width) l.row (503 - l.row) rest) ≡ rows_from (g.T.FileRow.entry l.fn.width) 2 501 all);
}
