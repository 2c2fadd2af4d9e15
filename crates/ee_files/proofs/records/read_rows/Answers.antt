use Rattle.std.proofs.Common.{rules}
use Rattle.ee_files.specs.Rows.{rows_of_file}
use Rattle.ee_files.proofs.records.read_rows.Goals as goal

pub returns-in-Ok-clause-takes : goal.returns-in-Ok-clause-takes
returns-in-Ok-clause-takes g c = c.read_whole.ensures.taken

pub returns-in-Err-TooLong-clause-takes : goal.returns-in-Err-TooLong-clause-takes
returns-in-Err-TooLong-clause-takes g c = c.read_whole.ensures.taken

pub returns-in-Err-ReadFailed-clause-takes : goal.returns-in-Err-ReadFailed-clause-takes
returns-in-Err-ReadFailed-clause-takes g c = c.read_whole.ensures.taken

pub returns-in-Err-NoMemory-clause-takes : goal.returns-in-Err-NoMemory-clause-takes
returns-in-Err-NoMemory-clause-takes g c = c.read_whole.ensures.taken

pub returns-in-Ok-clause-gives : goal.returns-in-Ok-clause-gives
unfolding rows_of_file
returns-in-Ok-clause-gives g c = search rules

pub returns-in-Err-TooLong-clause-gives : goal.returns-in-Err-TooLong-clause-gives
unfolding rows_of_file
returns-in-Err-TooLong-clause-gives g c = search rules

pub returns-in-Err-NoMemory-clause-failed : goal.returns-in-Err-NoMemory-clause-failed
returns-in-Err-NoMemory-clause-failed g c = search rules
