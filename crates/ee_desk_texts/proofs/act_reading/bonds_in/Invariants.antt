use Rattle.std.proofs.Common.{◌≡◌, ◌++◌, drop, Some}
use Rattle.json.specs.Value.{items_view}
use Rattle.ee_units.specs.Spelling.{◌>>=◌}
use Rattle.ee_desk_texts.specs.Inner.Reading.{each, bond_of}
use Rattle.ee_desk_texts.proofs.act_reading.bonds_in.Given as goal

abbrev pub invariant-loop-value : goal.invariant-loop-value
invariant-loop-value l =
    (each bond_of (items_view (drop l.value-index l.values)) >>= λ later. Some (l.bonds.items ++ later)) ≡ each bond_of (items_view l.values)
