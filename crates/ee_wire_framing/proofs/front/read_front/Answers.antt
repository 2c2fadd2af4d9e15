use Rattle.std.proofs.Common.{subst}
use Rattle.ee_wire_framing.specs.Inner.Heads.{Finds}
use Rattle.ee_wire_framing.proofs.More.{bad_head, too_long}
use Rattle.ee_wire_framing.proofs.front.read_front.Goals as goal

pub returns-in-Bad : goal.returns-in-Bad
returns-in-Bad c = λ more. bad_head c.args.bytes.now more (subst (Finds c.args.bytes.now) c.in-Bad.is c.requires)

pub returns-in-Partial-2 : goal.returns-in-Partial-2
returns-in-Partial-2 c = λ more.
    too_long c.args.bytes.now more c.if-bytes-lt-HEAD_LIMIT.false (subst (Finds c.args.bytes.now) c.in-Partial-2.is c.requires).0
