use Rattle.std.proofs.Common.{rules}
use Rattle.ee_desk_decide.proofs.checks.length_refusal.Goals as goal

pub returns-in-Redeem : goal.returns-in-Redeem
returns-in-Redeem c = search rules
