use Rattle.std.proofs.Common.{◌↔◌, suc, drop}
use Rattle.ee_desk_model.specs.Sound.{NumberedFrom}
use Rattle.ee_desk_soundness.proofs.lines.are_numbered.Given as goal

abbrev pub invariant-loop-i : goal.invariant-loop-i
invariant-loop-i l = NumberedFrom (suc l.i) (drop l.i l.tickets) ↔ NumberedFrom 1 l.tickets
