use Rattle.std.proofs.Common.{◌≡◌, ◌↔◌, map, take, drop}
use Rattle.std.specs.List.{AllByRecursion}
use Rattle.ee_desk_soundness.specs.Checks.{entry_of_row}
use Rattle.ee_desk_soundness.specs.Inner.Checks.{IsRightRow}
use Rattle.ee_desk_soundness.proofs.register.terms_by_month.Given as goal

abbrev pub invariant-loop-row : goal.invariant-loop-row
invariant-loop-row l = record {
  entries : l.terms.entries ≡ map entry_of_row (take l.row-index l.rows);
  right : AllByRecursion IsRightRow (drop l.row-index l.rows) ↔ AllByRecursion IsRightRow l.rows;
}
