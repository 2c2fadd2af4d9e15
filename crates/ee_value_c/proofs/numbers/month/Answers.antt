use Rattle.std.proofs.Common.{rules}
use Rattle.ee_value_c.specs.Numbers.{month_in}
use Rattle.ee_units.specs.Spelling.{month_at}
use Rattle.ee_value_c.proofs.numbers.month.Goals as goal

pub returns-then-year-month-ge24065 : goal.returns-then-year-month-ge24065
unfolding month_in month_at
returns-then-year-month-ge24065 c = search rules
