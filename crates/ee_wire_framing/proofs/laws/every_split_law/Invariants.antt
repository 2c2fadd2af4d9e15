use Rattle.std.proofs.Common.{◌≤◌, ◌-◌, List, length, drop}
use Rattle.ee_wire_framing.specs.Framing.{BeginsMessages, Message}
use Rattle.ee_wire_framing.proofs.laws.every_split_law.Given as goal

abbrev pub invariant-loop-len : goal.invariant-loop-len
invariant-loop-len l =
    record {
      inside : l.at ≤ length l.bytes;
      begins : (ms : List Message) × BeginsMessages l.bytes ms (drop l.at l.bytes);
    }

abbrev pub decreases-loop-len : goal.decreases-loop-len
decreases-loop-len l = length l.bytes - l.at
