use Rattle.std.proofs.Common.{rules}
use Rattle.ee_desk_decide.proofs.decisions.accept_close.Goals as goal

pub returns : goal.returns
returns c = search rules
