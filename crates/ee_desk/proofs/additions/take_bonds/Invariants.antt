use Rattle.std.proofs.Common.{◌≡◌, drop}
use Rattle.ee_desk_decide.specs.Noted.{held_in}
use Rattle.ee_desk.specs.Inner.Added.{held_row, without_changes}
use Rattle.ee_desk.proofs.additions.take_bonds.Given as goal

abbrev pub invariant-loop-change : goal.invariant-loop-change
invariant-loop-change l = without_changes held_row (held_in l.bonds.entries) (drop l.change-index l.changes) ≡ without_changes held_row (held_in l.fn.bonds.entries) l.changes
