use Rattle.std.proofs.Common.{rules}
use Rattle.ee_units.specs.Spelling.{day_of}
use Rattle.ee_units.proofs.days.day_in.Goals as goal

pub returns : goal.returns
unfolding day_of
returns c = search rules
