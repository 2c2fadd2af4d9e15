use Rattle.std.proofs.Common.{◌≡◌, take}
use Rattle.ee_desk.specs.Inner.Marks.{by_serial}
use Rattle.ee_desk.proofs.parts.held_map.Given as goal

abbrev pub invariant-loop-held : goal.invariant-loop-held
invariant-loop-held l = l.map.entries ≡ by_serial (take l.held-index l.rows)
