use Rattle.std.proofs.Common.{rules}
use Rattle.ee_wire_framing.proofs.buffer.Buffer.new.Goals as goal

pub returns : goal.returns
returns c = search rules
