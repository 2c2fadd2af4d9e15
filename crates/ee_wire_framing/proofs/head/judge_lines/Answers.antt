use Rattle.std.proofs.Common.{rules}
use Rattle.ee_wire_framing.proofs.head.judge_lines.Goals as goal

pub returns-in-None : goal.returns-in-None
returns-in-None c = search rules
