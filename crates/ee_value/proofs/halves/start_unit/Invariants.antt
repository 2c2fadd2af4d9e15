use Rattle.std.proofs.Common.{◌≡◌}
use Rattle.ee_value.specs.Chain.{start}
use Rattle.ee_value.proofs.halves.start_unit.Given as goal

abbrev pub invariant-loop-k : goal.invariant-loop-k
invariant-loop-k l = l.unit ≡ start l.rates l.k
