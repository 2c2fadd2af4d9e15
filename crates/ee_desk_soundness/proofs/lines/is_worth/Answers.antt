use Rattle.std.proofs.Common.{rules}
use Rattle.ee_desk_soundness.proofs.lines.is_worth.Goals as goal

pub returns-in-Pays : goal.returns-in-Pays
returns-in-Pays c = search rules
