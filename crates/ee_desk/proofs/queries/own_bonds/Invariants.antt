use Rattle.std.proofs.Common.{◌≡◌, ◌++◌}
use Rattle.std.specs.List.{filter_map}
use Rattle.std.specs.BTreeMap as tree
use Rattle.ee_desk.specs.Inner.Kept.{own_bond}
use Rattle.ee_desk.proofs.queries.own_bonds.Given as goal

abbrev pub invariant-loop-held : goal.invariant-loop-held
invariant-loop-held l = l.own.items ++ filter_map (own_bond l.customer) l.held-iterator ≡ filter_map (own_bond l.customer) (tree.values l.bonds)
