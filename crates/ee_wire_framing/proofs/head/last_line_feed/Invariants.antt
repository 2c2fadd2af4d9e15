use Rattle.std.proofs.Common.{◌≢◌, ℕ, ◌<◌, ◌≤◌, get_or}
use Rattle.ee_wire_framing.proofs.head.last_line_feed.Given as goal

abbrev pub invariant-loop-after : goal.invariant-loop-after
invariant-loop-after l =
    record {
      inside : l.after ≤ l.end;
      none : (k : ℕ) → l.after ≤ k → k < l.end → get_or l.bytes k 0 ≢ 10;
    }

abbrev pub decreases-loop-after : goal.decreases-loop-after
decreases-loop-after l = l.after
