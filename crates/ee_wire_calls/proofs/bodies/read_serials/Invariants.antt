use Rattle.std.proofs.Common.{◌≡◌, ◌++◌, drop, Ok}
use Rattle.serde_json.specs.View.{items_view}
use Rattle.ee_wire_calls.specs.Fields.{◌>>=◌}
use Rattle.ee_wire_calls.specs.Bodies.{serials_of}
use Rattle.ee_wire_calls.proofs.bodies.read_serials.Given as goal

-- the rows so far, and those of what is left, are those of all
abbrev pub invariant-loop-value : goal.invariant-loop-value
invariant-loop-value l =
    (serials_of (items_view (drop l.value-index l.values)) >>= λ later. Ok (l.serials.items ++ later)) ≡ serials_of (items_view l.values)
