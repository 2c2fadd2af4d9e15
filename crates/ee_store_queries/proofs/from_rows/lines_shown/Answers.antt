use Rattle.std.proofs.Common.{rules, arith}
use Rattle.std.proofs.lemmas.Grind.{common_steps}
use Rattle.ee_store_queries.proofs.from_rows.lines_shown.Goals as goal

pub loop-row-init : goal.loop-row-init
loop-row-init c = search rules

pub loop-row-preserved : goal.loop-row-preserved
loop-row-preserved c = grind (arith, common_steps)

pub returns-clause-read : goal.returns-clause-read
returns-clause-read c = search rules

pub returns-clause-shown : goal.returns-clause-shown
returns-clause-shown c = grind (arith, common_steps)

pub returns-in_default-clause-read : goal.returns-in_default-clause-read
returns-in_default-clause-read c = search rules

pub returns-in_default-clause-shown : goal.returns-in_default-clause-shown
returns-in_default-clause-shown c = search rules

pub returns-then-is_err-clause-read : goal.returns-then-is_err-clause-read
returns-then-is_err-clause-read c = search rules

pub returns-then-is_err-clause-shown : goal.returns-then-is_err-clause-shown
returns-then-is_err-clause-shown c = search rules
