use Rattle.std.proofs.Common.{◌≡◌, ℕ, ◌+◌, ◌*◌, ◌<◌, map, false}
use Rattle.std.specs.List.{range_with_len}
use Rattle.ee_value.specs.Value.{accrued}
use Rattle.ee_value.specs.Open.{is_open}
use Rattle.ee_value.proofs.tables.push_half_year.Given as goal

abbrev pub invariant-loop-months : goal.invariant-loop-months
invariant-loop-months l = record {
  filled : l.units.items ≡ map (accrued l.rates) (range_with_len 0 (6 * l.half_year + l.months));
  settled : (a : ℕ) → a < 6 * l.half_year + l.months → is_open l.rates a l.powers.bits ≡ false;
}
