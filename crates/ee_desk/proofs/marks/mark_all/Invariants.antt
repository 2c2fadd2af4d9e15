use Rattle.std.proofs.Common.{◌≡◌, take}
use Rattle.std.specs.Option.{option_map}
use Rattle.std.specs.List.{list_any}
use Rattle.ee_units.specs.Spelling.{SerialNumber}
use Rattle.ee_desk_model.specs.Serials.{same_serial}
use Rattle.ee_desk.specs.Inner.Marks.{held_at, marked}
use Rattle.ee_desk.proofs.marks.mark_all.Given as goal

abbrev pub invariant-loop-line : goal.invariant-loop-line
invariant-loop-line l = (q : SerialNumber) → held_at l.bonds.entries q ≡ option_map (marked (list_any (λ line. same_serial q line.serial) (take l.line-index l.lines)) l.ticket) (held_at l.fn.bonds.entries q)
