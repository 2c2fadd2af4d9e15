use Rattle.std.proofs.Common.{rules}
use Rattle.ee_files.proofs.fields.coowner_in.Goals as goal

pub returns-then-is_empty : goal.returns-then-is_empty
returns-then-is_empty c = search rules
