use Rattle.std.proofs.Common.{◌-◌, ◌*◌, ◌^◌, ◌<◌, ◌≤◌}
use Rattle.ee_roots.specs.Products.{power_up}
use Rattle.ee_roots.proofs.search.low_root.Given as goal

abbrev pub invariant-loop-above : goal.invariant-loop-above
invariant-loop-above l = record {
  from_one : 2 ^ l.bits ≤ l.low;
  apart : l.low < l.above;
  near_one : 32 * l.above ≤ 33 * 2 ^ l.bits;
  low_fits : power_up l.bits l.low 5 * 20000 ≤ l.wanted;
  above_exceeds : l.wanted < power_up l.bits l.above 5 * 20000;
}

abbrev pub decreases-loop-above : goal.decreases-loop-above
decreases-loop-above l = l.above - l.low
