use Rattle.std.proofs.Common.{rules}
use Rattle.ee_wire_framing.proofs.fields.with_digit.Goals as goal

pub returns-then-value-le-BODY_LIMIT : goal.returns-then-value-le-BODY_LIMIT
returns-then-value-le-BODY_LIMIT c = search rules
