use Rattle.std.proofs.Common.{◌≡◌, ◌++◌, drop, Some}
use Rattle.ee_units.specs.Spelling.{◌>>=◌}
use Rattle.ee_store_contents.specs.Inner.Reading.{each, batch_in}
use Rattle.ee_store_contents.proofs.reading.batches_in.Given as goal

abbrev pub invariant-loop-row : goal.invariant-loop-row
invariant-loop-row l =
    (each batch_in (drop l.row-index l.rows) >>= λ later. Some (l.batches.items ++ later)) ≡ each batch_in l.rows
