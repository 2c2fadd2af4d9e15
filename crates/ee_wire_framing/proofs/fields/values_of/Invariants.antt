use Rattle.std.proofs.Common.{map, take}
use Rattle.httparse.specs.Spans.{header_bytes}
use Rattle.ee_wire_framing.specs.Framing.{values_of}
use Rattle.ee_wire_framing.specs.Inner.Heads.{AreValues}
use Rattle.ee_wire_framing.proofs.fields.values_of.Given as goal

abbrev pub invariant-loop-field : goal.invariant-loop-field
invariant-loop-field l = AreValues l.lines (values_of l.name (map (header_bytes l.lines) (take l.field-index l.fields))) l.values
