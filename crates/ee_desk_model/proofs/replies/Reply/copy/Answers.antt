use Rattle.std.proofs.Common.{rules}
use Rattle.ee_desk_model.proofs.replies.Reply.copy.Goals as goal

pub returns : goal.returns
returns c = search rules
