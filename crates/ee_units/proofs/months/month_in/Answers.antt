use Rattle.std.proofs.Common.{rules}
use Rattle.ee_units.specs.Spelling.{month_of}
use Rattle.ee_units.proofs.months.month_in.Goals as goal

pub returns-in_err-digits-3 : goal.returns-in_err-digits-3
unfolding month_of
returns-in_err-digits-3 c = search rules

pub returns-in_err-digits-4 : goal.returns-in_err-digits-4
unfolding month_of
returns-in_err-digits-4 c = search rules

pub returns : goal.returns
unfolding month_of
returns c = search rules
