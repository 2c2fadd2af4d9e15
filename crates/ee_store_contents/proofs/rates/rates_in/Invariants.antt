use Rattle.std.proofs.Common.{◌≡◌, ◌++◌, drop, Some}
use Rattle.ee_units.specs.Spelling.{◌>>=◌}
use Rattle.ee_store_contents.specs.Inner.Reading.{rates_in}
use Rattle.ee_store_contents.proofs.rates.rates_in.Given as goal

abbrev pub invariant-loop-row : goal.invariant-loop-row
invariant-loop-row l =
    (rates_in (drop l.row-index l.rows) l.rest >>= λ later. Some (l.rates.items ++ later)) ≡ rates_in l.rows l.extensions
