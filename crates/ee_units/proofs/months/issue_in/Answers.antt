use Rattle.std.proofs.Common.{rules}
use Rattle.ee_units.specs.Spelling.{issue_of}
use Rattle.ee_units.proofs.months.issue_in.Goals as goal

pub returns : goal.returns
unfolding issue_of
returns c = search rules
