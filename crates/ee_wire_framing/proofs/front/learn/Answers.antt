use Rattle.std.proofs.Common.{rules}
use Rattle.ee_wire_framing.proofs.front.learn.Goals as goal

pub returns-in-Partial : goal.returns-in-Partial
returns-in-Partial c = search rules
