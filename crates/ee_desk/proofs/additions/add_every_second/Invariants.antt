use Rattle.std.proofs.Common.{◌≡◌, false, length}
use Rattle.std.specs.FinMap as finite
use Rattle.ee_units.specs.Spelling.{SerialNumber}
use Rattle.ee_desk_model.specs.Serials.{serial_cmp}
use Rattle.ee_desk_decide.specs.Noted.{held_in}
use Rattle.ee_desk.specs.Inner.Added.{held_row, with_changes, every_second, adds_at}
use Rattle.ee_desk.proofs.additions.add_every_second.Given as goal

abbrev pub invariant-loop-change : goal.invariant-loop-change
invariant-loop-change l =
    (with_changes held_row (held_in l.bonds.entries) (every_second l.rest) ≡ with_changes held_row (held_in l.fn.bonds.entries) (every_second l.changes))
    × ((q : SerialNumber) → adds_at serial_cmp held_row q l.changes ≡ false → (adds_at serial_cmp held_row q l.rest ≡ false) × (finite.get (held_in l.bonds.entries) q ≡ finite.get (held_in l.fn.bonds.entries) q))

abbrev pub decreases-loop-change : goal.decreases-loop-change
decreases-loop-change l = length l.rest
