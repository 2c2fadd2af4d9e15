use Rattle.std.proofs.Common.{◌-◌, ◌*◌, ◌^◌, ◌≤◌}
use Rattle.ee_roots.proofs.Directed.{IsAtMostHigh}
use Rattle.ee_roots.proofs.search.high_root.Given as goal

abbrev pub invariant-loop-bits : goal.invariant-loop-bits
invariant-loop-bits l = record {
  from_one : 2 ^ l.bits ≤ l.high;
  near_one : 32 * l.high ≤ 33 * 2 ^ l.bits;
  least : IsAtMostHigh l.bits l.fn.rate l.high;
}

abbrev pub decreases-loop-bits : goal.decreases-loop-bits
decreases-loop-bits l = 33 * 2 ^ l.bits - 32 * l.high
