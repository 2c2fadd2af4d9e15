use Rattle.std.proofs.Common.{drop}
use Rattle.std.specs.List.{AllByRecursion}
use Rattle.ee_desk_model.specs.Ranges.{BondFits}
use Rattle.ee_desk_texts.proofs.invariants.bonds_fit.Given as goal

abbrev pub invariant-loop-bond : goal.invariant-loop-bond
invariant-loop-bond l = AllByRecursion BondFits (drop l.bond-index l.bonds) → AllByRecursion BondFits l.bonds
