use Rattle.std.proofs.Common.{drop, map}
use Rattle.std.specs.List.{AllByRecursion}
use Rattle.ee_desk_soundness.specs.Marks.{bond_of}
use Rattle.ee_desk_model.specs.Ranges.{BondFits}
use Rattle.ee_store_contents.proofs.invariants.held_fit.Given as goal

abbrev pub invariant-loop-held : goal.invariant-loop-held
invariant-loop-held l = AllByRecursion BondFits (map bond_of (drop l.held-index l.bonds)) → AllByRecursion BondFits (map bond_of l.bonds)
