use Rattle.std.proofs.Common.{arith}
use Rattle.ee_store_load.proofs.RowLemmas.{seven_columns}
use Rattle.ee_store_tables.proofs.Lemmas.Rows.{reads_optional}
use Rattle.ee_store_load.proofs.bonds.numbers_in.Goals as goal

pub returns-clause-exact : goal.returns-clause-exact
returns-clause-exact c = seven_columns c.args.row.now _ _ _ _ _ _ _ (omega (arith, c.column_count.ensures, c.if-column_count-ne7.false))
    c.in_ok-get.ensures.ok.1 c.in_ok-get-2.ensures.ok.1 c.in_ok-get-3.ensures.ok.1 c.in_ok-get-4.ensures.ok.1 c.in_ok-get-5.ensures.ok.1
    (reads_optional _ c.in_ok-get-6.field-0 c.in_ok-get-6.ensures.ok.1) (reads_optional _ c.in_ok-get-7.field-0 c.in_ok-get-7.ensures.ok.1)
