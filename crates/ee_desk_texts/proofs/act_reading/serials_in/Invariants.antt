use Rattle.std.proofs.Common.{◌≡◌, ◌++◌, drop, Some}
use Rattle.json.specs.Value.{items_view}
use Rattle.ee_units.specs.Spelling.{◌>>=◌}
use Rattle.ee_desk_texts.specs.Inner.Reading.{each, serial_in}
use Rattle.ee_desk_texts.proofs.act_reading.serials_in.Given as goal

abbrev pub invariant-loop-value : goal.invariant-loop-value
invariant-loop-value l =
    (each serial_in (items_view (drop l.value-index l.values)) >>= λ later. Some (l.serials.items ++ later)) ≡ each serial_in (items_view l.values)
