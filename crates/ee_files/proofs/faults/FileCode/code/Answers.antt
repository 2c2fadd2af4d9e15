use Rattle.std.proofs.Common.{rules}
use Rattle.ee_files.proofs.faults.FileCode.code.Goals as goal

pub returns-in-BadHeader : goal.returns-in-BadHeader
returns-in-BadHeader c = search rules
