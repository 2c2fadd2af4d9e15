use Rattle.std.proofs.Common.{arith}
use Rattle.std.proofs.lemmas.Grind.{common_steps}
use Rattle.ee_desk_texts.proofs.replies.write_added.Goals as goal

pub returns : goal.returns
returns c = grind (arith, common_steps)
