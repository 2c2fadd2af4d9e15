use Rattle.std.proofs.Common.{All, take}
use Rattle.ee_files.specs.BondFile.{IsBond}
use Rattle.ee_files.proofs.invariants.in_range.Given as goal

-- each bond so far
abbrev pub invariant-loop-bond : goal.invariant-loop-bond
invariant-loop-bond l = All IsBond (take l.bond-index l.fn.bonds)
