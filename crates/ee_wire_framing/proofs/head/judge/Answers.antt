use Rattle.std.proofs.Common.{Err, ap, length}
use Rattle.httparse.proofs.HeadLemmas.{on_partial}
use Rattle.ee_wire_framing.proofs.Heads.{exceeds_less}
use Rattle.ee_wire_framing.proofs.WholeLines.{started_lines, whole_fields}
use Rattle.ee_wire_framing.proofs.head.judge.Goals as goal

pub returns-in-Ok-Partial : goal.returns-in-Ok-Partial
returns-in-Ok-Partial c =
    whole_fields c.args.lines.now (started_lines c.args.lines.now c.requires.lines c.requires.started
    (on_partial c.in-Ok-Partial.is c.in-Ok-Partial.field-0-is c.parse_request.ensures.partial)
    (on_partial c.in-Ok-Partial.is c.in-Ok-Partial.field-0-is c.parse_request.ensures.unfinished))

pub returns-in-TooManyHeaders : goal.returns-in-TooManyHeaders
returns-in-TooManyHeaders c =
    exceeds_less (length c.args.headers.now) c.args.lines.now c.requires.limit (c.in-Err.ensures.too_many (ap Err c.in-TooManyHeaders.is))
