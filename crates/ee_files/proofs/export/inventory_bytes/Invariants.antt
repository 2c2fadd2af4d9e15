use Rattle.std.proofs.Common.{◌≡◌, ◌++◌, Some, take}
use Rattle.std.specs.List.{flat_map}
use Rattle.csv.specs.Writing.{row_text, default_writer, text_written}
use Rattle.ee_files.specs.BondFile.{bond_columns, bond_fields}
use Rattle.ee_files.specs.Rows.{header_of}
use Rattle.ee_files.specs.Inner.WriterState.{IsBetweenRows}
use Rattle.ee_files.proofs.export.inventory_bytes.Given as goal

-- the header and a line for each bond so far
abbrev pub invariant-loop-bond : goal.invariant-loop-bond
invariant-loop-bond l = IsBetweenRows l.writer
    × (text_written (λ v. Some v.items) l.writer ≡ Some (row_text default_writer (header_of bond_columns) ++ flat_map (λ b. row_text default_writer (bond_fields b)) (take l.bond-index l.fn.bonds)))
