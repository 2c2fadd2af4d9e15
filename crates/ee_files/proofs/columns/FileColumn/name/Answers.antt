use Rattle.std.proofs.Common.{rules}
use Rattle.ee_files.proofs.columns.FileColumn.name.Goals as goal

pub returns-in-Owner : goal.returns-in-Owner
returns-in-Owner c = search rules
