use Rattle.std.proofs.Common.{arith}
use Rattle.ee_units.proofs.MonthOfDay.{found, cast_year}
use Rattle.ee_units.proofs.days.parts_of.Goals as goal

pub returns-clause-year : goal.returns-clause-year
returns-clause-year c =
    let f = found c.args.day c.date_of-date.result c.date_of-date.ensures.number c.date_of-date.ensures.low c.date_of-date.ensures.high in
    rw (cast_year c.args.day c.date_of-date.result f) f.parts.year_is

pub returns-clause-month : goal.returns-clause-month
returns-clause-month c = (found c.args.day c.date_of-date.result c.date_of-date.ensures.number c.date_of-date.ensures.low c.date_of-date.ensures.high).parts.month_is

pub returns-clause-day : goal.returns-clause-day
returns-clause-day c = (found c.args.day c.date_of-date.result c.date_of-date.ensures.number c.date_of-date.ensures.low c.date_of-date.ensures.high).parts.day_is

pub returns-clause-bound : goal.returns-clause-bound
returns-clause-bound c = (found c.args.day c.date_of-date.result c.date_of-date.ensures.number c.date_of-date.ensures.low c.date_of-date.ensures.high).parts.bound

pub overflow_cast-result : goal.overflow_cast-result
overflow_cast-result c =
    let f = found c.args.day c.date_of-date.result c.date_of-date.ensures.number c.date_of-date.ensures.low c.date_of-date.ensures.high in
    rw (cast_year c.args.day c.date_of-date.result f) (tt, omega (arith, f.small))
