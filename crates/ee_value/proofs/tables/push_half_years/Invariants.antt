use Rattle.std.proofs.Common.{◌≡◌, ℕ, ◌*◌, ◌<◌, map, false}
use Rattle.std.specs.List.{range_with_len}
use Rattle.ee_value.specs.Chain.{start}
use Rattle.ee_value.specs.Value.{accrued}
use Rattle.ee_value.specs.Open.{is_open}
use Rattle.ee_value.proofs.tables.push_half_years.Given as goal

abbrev pub invariant-loop-half_year : goal.invariant-loop-half_year
invariant-loop-half_year l = record {
  begun : l.unit ≡ start l.rates l.half_year;
  filled : l.units.items ≡ map (accrued l.rates) (range_with_len 0 (6 * l.half_year));
  settled : (a : ℕ) → a < 6 * l.half_year → is_open l.rates a l.powers.bits ≡ false;
}
