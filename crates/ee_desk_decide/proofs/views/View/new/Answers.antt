use Rattle.std.proofs.Common.{rules}
use Rattle.ee_desk_decide.proofs.views.View.new.Goals as goal

pub returns : goal.returns
returns c = search rules
