use Rattle.std.proofs.Common.{◌≡◌, ◌-◌}
use denote.Text.{Utf8}
use denote.Shadow.{shadow}
use Rattle.ee_wire_calls.specs.Paths.{segment}
use Rattle.ee_wire_calls.proofs.paths.segment.Given as goal

abbrev pub invariant-loop-i : goal.invariant-loop-i
invariant-loop-i l = shadow (Utf8 l.rest) × (segment (l.slashes - l._i) l.rest ≡ segment l.slashes l.path)
