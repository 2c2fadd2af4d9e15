use Rattle.std.proofs.Common.{rules}
use Rattle.ee_desk.proofs.seeing.view_with.Goals as goal

pub returns : goal.returns
returns c = search rules
