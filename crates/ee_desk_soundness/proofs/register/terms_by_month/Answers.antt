use Rattle.std.proofs.Common.{ap, ◌∙◌}
use Rattle.std.specs.List.{AllByRecursion}
use Rattle.std.specs.BTreeMap.{insert_entry}
use Rattle.std.specs.Ordering.{nat_cmp}
use Rattle.ee_desk_soundness.specs.Inner.Checks.{IsRightRow}
use Rattle.ee_desk_soundness.proofs.Walks.{all_on}
use Rattle.ee_desk_soundness.proofs.Entries.{rates_more}
use Rattle.ee_desk_soundness.proofs.register.terms_by_month.Goals as goal

pub loop-row-preserved : goal.loop-row-preserved
loop-row-preserved c =
    record {
      entries = c.in_ok-insert.ensures.entries
          ∙ ap (insert_entry nat_cmp c.loop-row.terms.entries c.row-item.result.from) c.in_ok-one.ensures.value
          ∙ rates_more c.args.rows.now c.loop-row.row-index c.row-item.result c.loop-row.terms.entries c.requires c.loop-row-test.true c.row-item.is c.loop-row.invariant.entries;
      right = all_on c.args.rows.now c.loop-row.row-index c.row-item.result c.loop-row-test.true c.row-item.is IsRightRow (AllByRecursion IsRightRow c.args.rows.now) c.in_ok-one.ensures.right c.loop-row.invariant.right;
    }
