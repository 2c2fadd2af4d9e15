use Rattle.std.proofs.Common.{rules}
use Rattle.ee_files.proofs.fields.rate_in.Goals as goal

pub returns : goal.returns
returns c = search rules
