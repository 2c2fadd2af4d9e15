use Rattle.std.proofs.Common.{rules}
use Rattle.ee_desk.proofs.seeing.bonds_of.Goals as goal

pub returns-in-Redeem : goal.returns-in-Redeem
returns-in-Redeem c = search rules
