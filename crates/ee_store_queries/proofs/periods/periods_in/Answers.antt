use Rattle.std.proofs.Common.{rules, arith}
use Rattle.std.proofs.lemmas.Grind.{common_steps}
use Rattle.ee_store_queries.proofs.periods.periods_in.Goals as goal

pub loop-bond-init : goal.loop-bond-init
loop-bond-init c = search rules

pub returns : goal.returns
returns c = grind (arith, common_steps)

pub returns-in_err-note_period : goal.returns-in_err-note_period
returns-in_err-note_period c = search rules
