use Rattle.std.proofs.Common.{◌≡◌, ◌+◌, ◌++◌, drop, Some}
use Rattle.ee_units.specs.Spelling.{◌>>=◌}
use Rattle.ee_store_contents.specs.Inner.Reading.{lines_at}
use Rattle.ee_store_contents.proofs.tickets.lines_in.Given as goal

abbrev pub invariant-loop-i : goal.invariant-loop-i
invariant-loop-i l =
    (lines_at l.ticket (l.i + 1) (drop l.i l.rows) >>= λ later. Some (l.lines.items ++ later)) ≡ lines_at l.ticket 1 l.rows
