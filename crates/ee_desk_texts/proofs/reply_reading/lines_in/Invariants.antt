use Rattle.std.proofs.Common.{◌≡◌, ◌++◌, drop, Some}
use Rattle.json.specs.Value.{items_view}
use Rattle.ee_units.specs.Spelling.{◌>>=◌}
use Rattle.ee_desk_texts.specs.Inner.Reading.{each, line_of}
use Rattle.ee_desk_texts.proofs.reply_reading.lines_in.Given as goal

abbrev pub invariant-loop-value : goal.invariant-loop-value
invariant-loop-value l =
    (each line_of (items_view (drop l.value-index l.values)) >>= λ later. Some (l.lines.items ++ later)) ≡ each line_of (items_view l.values)
