use Rattle.std.proofs.Common.{rules}
use Rattle.ee_files.specs.RateFile.{rate_entry}
use Rattle.ee_files.proofs.rates.rate_row.Goals as goal

pub returns-in_err-from-clause-gives : goal.returns-in_err-from-clause-gives
unfolding rate_entry
returns-in_err-from-clause-gives c = search rules

pub returns-in_err-fixed-clause-gives : goal.returns-in_err-fixed-clause-gives
unfolding rate_entry
returns-in_err-fixed-clause-gives c = search rules

pub returns-clause-gives : goal.returns-clause-gives
unfolding rate_entry
returns-clause-gives c = search rules
