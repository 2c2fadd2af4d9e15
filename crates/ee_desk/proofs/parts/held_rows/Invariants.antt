use Rattle.std.proofs.Common.{◌≡◌, map, take}
use Rattle.ee_desk.specs.Inner.Parts.{held_bond}
use Rattle.ee_desk.proofs.parts.held_rows.Given as goal

abbrev pub invariant-loop-bond : goal.invariant-loop-bond
invariant-loop-bond l = l.rows.items ≡ map (held_bond l.tickets) (take l.bond-index l.bonds)
