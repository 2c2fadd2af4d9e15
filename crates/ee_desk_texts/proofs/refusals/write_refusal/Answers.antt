use Rattle.std.proofs.Common.{rules}
use Rattle.ee_desk_texts.proofs.refusals.write_refusal.Goals as goal

pub returns : goal.returns
returns c = search rules
