use Rattle.std.proofs.Common.{◌≡◌, ◌++◌, drop, Some}
use Rattle.ee_units.specs.Spelling.{◌>>=◌}
use Rattle.ee_store_contents.specs.Inner.Reading.{tickets_in}
use Rattle.ee_store_contents.proofs.tickets.tickets_in.Given as goal

abbrev pub invariant-loop-row : goal.invariant-loop-row
invariant-loop-row l =
    (tickets_in (drop l.row-index l.rows) l.rest >>= λ later. Some (l.tickets.items ++ later)) ≡ tickets_in l.rows l.lines
