use Rattle.std.proofs.Common.{◌≡◌, ◌-◌, List, ℕ}
use Rattle.csv.specs.Reading.{default_config, records, strip_bom}
use Rattle.ee_files.specs.Inner.Left.{HasLeft}
use Rattle.ee_files.specs.Showing.{record_after}
use Rattle.ee_files.proofs.showing.record_at.Given as goal

-- the record that is wanted is among those that are left
abbrev pub invariant-loop-before : goal.invariant-loop-before
invariant-loop-before l = (rest : List (List (List ℕ))) × HasLeft l.records rest
    × (record_after (l.fn.row - l._before) rest ≡ record_after (l.fn.row - 1) (records default_config (strip_bom l.fn.bytes)))
