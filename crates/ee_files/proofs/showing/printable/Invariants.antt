use Rattle.std.proofs.Common.{◌≡◌, map, take}
use Rattle.ee_files.specs.Showing.{shown_byte}
use Rattle.ee_files.proofs.showing.printable.Given as goal

-- the bytes so far are shown
abbrev pub invariant-loop-byte : goal.invariant-loop-byte
invariant-loop-byte l = l.shown.items ≡ map shown_byte (take l.byte-index l.bytes)
