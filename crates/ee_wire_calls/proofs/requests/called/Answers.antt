use Rattle.std.proofs.Common.{rules}
use Rattle.ee_wire_calls.proofs.requests.called.Goals as goal

pub returns-in-Post : goal.returns-in-Post
returns-in-Post c = search rules
