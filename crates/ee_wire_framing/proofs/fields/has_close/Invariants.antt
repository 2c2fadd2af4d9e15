use Rattle.std.proofs.Common.{◌≡◌, map, take, false}
use Rattle.httparse.specs.Spans.{header_bytes}
use Rattle.ee_wire_framing.specs.Framing.{has_close}
use Rattle.ee_wire_framing.proofs.fields.has_close.Given as goal

abbrev pub invariant-loop-field : goal.invariant-loop-field
invariant-loop-field l = has_close (map (header_bytes l.lines) (take l.field-index l.fields)) ≡ false
