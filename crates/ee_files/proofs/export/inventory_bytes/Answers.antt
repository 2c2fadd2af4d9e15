use Rattle.std.proofs.Common.{◌∙◌}
use Rattle.std.proofs.lemmas.Option.{same_Some}
use Rattle.csv.specs.Writing.{row_text, default_writer}
use Rattle.ee_files.specs.BondFile.{bond_columns, bond_fields}
use Rattle.ee_files.specs.Rows.{header_of}
use Rattle.ee_files.proofs.RowsWritten.{more_row, whole_text}
use Rattle.ee_files.proofs.export.inventory_bytes.Goals as goal

pub loop-bond-preserved : goal.loop-bond-preserved
loop-bond-preserved c =
    let (between, before) = c.loop-bond.invariant in
    let next = c.in_ok-write_bond.ensures.ok between in
    (next.0, more_row (λ b. row_text default_writer (bond_fields b)) (row_text default_writer (header_of bond_columns)) _ _ c.args.bonds.now c.loop-bond.bond-index c.bond-item.result c.bond-item.result c.loop-bond-test.true c.bond-item.is before next.1)

pub returns-in-Ok : goal.returns-in-Ok
returns-in-Ok c =
    let (between, before) = c.loop-bond.invariant in
    record { ok = c.in-Ok.ensures.ok ∙ same_Some _ _ before ∙ whole_text c.args.bonds.now c.loop-bond.bond-index c.loop-bond-test.false; err = tt }
