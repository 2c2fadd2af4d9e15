use Rattle.std.proofs.Common.{◌≡◌, take, true}
use Rattle.std.specs.List.{list_any, AllByRecursion}
use Rattle.std.specs.Ordering.{nat_cmp, eq_by_cmp}
use Rattle.ee_units.specs.Calendar.{period_start}
use Rattle.ee_store_queries.proofs.periods.periods_in.Given as goal

abbrev pub invariant-loop-bond : goal.invariant-loop-bond
invariant-loop-bond l = AllByRecursion (λ bond. list_any (eq_by_cmp nat_cmp (period_start bond.issued)) l.periods.items ≡ true) (take l.bond-index l.bonds)
