use Rattle.std.proofs.Common.{rules, arith}
use Rattle.std.proofs.lemmas.Grind.{common_steps}
use Rattle.std.proofs.lemmas.List.Sums.{sum_by_more}
use Rattle.ee_calculator.proofs.totals.sheet.Goals as goal

pub loop-row-preserved : goal.loop-row-preserved
loop-row-preserved c = search (sum_by_more, rules)

pub returns-clause-price : goal.returns-clause-price
returns-clause-price c = grind (arith, common_steps)

pub returns-clause-value : goal.returns-clause-value
returns-clause-value c = grind (arith, common_steps)

pub returns-clause-interest : goal.returns-clause-interest
returns-clause-interest c = grind (arith, common_steps)
