use Rattle.std.proofs.Common.{◌≡◌, ◌++◌, map}
use Rattle.std.specs.BTreeMap as tree
use Rattle.ee_desk_model.specs.declared.changes.Held.{Held}
use Rattle.ee_desk.proofs.parts.held_bonds.Given as goal

abbrev pub invariant-loop-one : goal.invariant-loop-one
invariant-loop-one l = l.bonds.items ++ map (λ (h : Held). h.bond) l.one-iterator ≡ map (λ (h : Held). h.bond) (tree.values l.held)
