use Rattle.std.proofs.Common.{◌↔◌, drop, map}
use Rattle.std.specs.List.{AllByRecursion}
use Rattle.std.specs.FinMap as finite
use Rattle.ee_desk_soundness.specs.Marks.{bond_of}
use Rattle.ee_desk_soundness.specs.Inner.Checks.{IsRightOwn}
use Rattle.ee_desk_soundness.proofs.register.are_right_bonds.Given as goal

abbrev pub invariant-loop-held : goal.invariant-loop-held
invariant-loop-held l = AllByRecursion (IsRightOwn (finite.from_entries l.rates.entries)) (map bond_of (drop l.held-index l.bonds)) ↔ AllByRecursion (IsRightOwn (finite.from_entries l.rates.entries)) (map bond_of l.bonds)
