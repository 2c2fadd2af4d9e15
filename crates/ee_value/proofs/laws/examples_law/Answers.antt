use Rattle.std.proofs.Common.{Some, arith}
use Rattle.ee_value.specs.Chain.{one_rate, rates_with, rate_in}
use Rattle.ee_value.proofs.Starts.{starts-are, linear-start, step}
use Rattle.ee_value.proofs.laws.examples_law.Goals as goal

pub returns-clause-begins_3_50 : goal.returns-clause-begins_3_50
unfolding linear-start step rate_in
returns-clause-begins_3_50 c = starts-are (one_rate 350) (omega arith) 0 11

pub returns-clause-doubles_3_50 : goal.returns-clause-doubles_3_50
unfolding linear-start step rate_in
returns-clause-doubles_3_50 c = starts-are (one_rate 350) (omega arith) 36 5

pub returns-clause-doubles_3_40 : goal.returns-clause-doubles_3_40
unfolding linear-start step rate_in
returns-clause-doubles_3_40 c = starts-are (one_rate 340) (omega arith) 36 5

pub returns-clause-begins_3_60 : goal.returns-clause-begins_3_60
unfolding linear-start step rate_in
returns-clause-begins_3_60 c = starts-are (one_rate 360) (omega arith) 0 4

pub returns-clause-doubles_3_60 : goal.returns-clause-doubles_3_60
unfolding linear-start step rate_in
returns-clause-doubles_3_60 c = starts-are (one_rate 360) (omega arith) 36 5

pub returns-clause-begins_20 : goal.returns-clause-begins_20
unfolding linear-start step rate_in
returns-clause-begins_20 c = starts-are (one_rate 2000) (omega arith) 0 9

pub returns-clause-ends_20 : goal.returns-clause-ends_20
unfolding linear-start step rate_in
returns-clause-ends_20 c = starts-are (one_rate 2000) (omega arith) 56 5

pub returns-clause-extends_3_40_by_4 : goal.returns-clause-extends_3_40_by_4
unfolding linear-start step rate_in
returns-clause-extends_3_40_by_4 c = starts-are (rates_with 340 (Some 400)) (omega arith) 38 6

pub returns-clause-extends_3_60_by_0 : goal.returns-clause-extends_3_60_by_0
unfolding linear-start step rate_in
returns-clause-extends_3_60_by_0 c = starts-are (rates_with 360 (Some 0)) (omega arith) 39 4
