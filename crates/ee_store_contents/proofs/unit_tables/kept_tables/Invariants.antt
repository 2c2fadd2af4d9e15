use Rattle.std.proofs.Common.{◌≡◌}
use Rattle.std.specs.BTreeMap as tree
use Rattle.std.specs.FinMap as finite
use Rattle.ee_store_contents.proofs.KeptTables.{with_each}
use Rattle.ee_store_contents.proofs.unit_tables.kept_tables.Given as goal

abbrev pub invariant-loop-own : goal.invariant-loop-own
invariant-loop-own l = with_each l.tables l.own-iterator ≡ with_each finite.empty (tree.values l.terms)
