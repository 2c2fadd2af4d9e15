use Rattle.ee_units.proofs.DenomTexts.{denom_back}
use Rattle.ee_units.proofs.ReadBack.{rate_back, month_back, issue_back, day_back, customer_back, serial_back}
use Rattle.ee_units.proofs.laws.texts_law.Goals as goal

pub returns-clause-rate : goal.returns-clause-rate
returns-clause-rate c = rate_back

pub returns-clause-month : goal.returns-clause-month
returns-clause-month c = month_back

pub returns-clause-customer : goal.returns-clause-customer
returns-clause-customer c = customer_back

pub returns-clause-serial : goal.returns-clause-serial
returns-clause-serial c = serial_back

pub returns-clause-day : goal.returns-clause-day
returns-clause-day c = day_back

pub returns-clause-issue : goal.returns-clause-issue
returns-clause-issue c = issue_back

pub returns-clause-denom : goal.returns-clause-denom
returns-clause-denom c = denom_back
