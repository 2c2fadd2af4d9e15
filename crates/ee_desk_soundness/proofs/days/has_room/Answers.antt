use Rattle.std.proofs.Common.{rules}
use Rattle.ee_desk_soundness.proofs.days.has_room.Goals as goal

pub returns-in-Some : goal.returns-in-Some
returns-in-Some c = search rules
