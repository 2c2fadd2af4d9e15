use Rattle.std.proofs.Common.{rules}
use Rattle.ee_desk_decide.proofs.checks.refusal_of_redeem.Goals as goal

pub returns : goal.returns
returns c = search rules
