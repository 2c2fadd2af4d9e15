use Rattle.std.proofs.Common.{rules, arith}
use Rattle.std.proofs.lemmas.Grind.{common_steps}
use Rattle.ee_desk_decide.proofs.decisions.accepted.Goals as goal

pub returns-in-CloseDay : goal.returns-in-CloseDay
returns-in-CloseDay c = search rules

pub returns-in-OpenDay : goal.returns-in-OpenDay
returns-in-OpenDay c = search rules

pub returns-in-Redeem : goal.returns-in-Redeem
returns-in-Redeem c = search rules

pub returns-in_err-changes-in-AddBonds : goal.returns-in_err-changes-in-AddBonds
returns-in_err-changes-in-AddBonds c = search rules

pub returns-in_err-changes-in-AddRates : goal.returns-in_err-changes-in-AddRates
returns-in_err-changes-in-AddRates c = search rules

pub returns-in_ok-changes-in-AddBonds : goal.returns-in_ok-changes-in-AddBonds
returns-in_ok-changes-in-AddBonds c = grind (arith, common_steps)

pub returns-in_ok-changes-in-AddRates : goal.returns-in_ok-changes-in-AddRates
returns-in_ok-changes-in-AddRates c = grind (arith, common_steps)
