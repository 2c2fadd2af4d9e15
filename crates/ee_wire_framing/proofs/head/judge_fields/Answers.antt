use Rattle.std.proofs.Common.{Err, ap, drop, length}
use Rattle.httparse.proofs.HeadLemmas.{on_partial}
use Rattle.ee_wire_framing.proofs.WholeLines.{section_exceeds_less, fields_started, fields_after, fields_bad, whole_fields, drop_short}
use Rattle.ee_wire_framing.proofs.head.judge_fields.Goals as goal

pub judge-requires-clause-started : goal.judge-requires-clause-started
judge-requires-clause-started c = fields_started c.args.lines.now c.args.tested c.requires.tested

pub returns-in-Ok-Partial : goal.returns-in-Ok-Partial
returns-in-Ok-Partial c =
    whole_fields c.args.lines.now
    (fields_after c.args.lines.now c.args.tested c.requires.lines c.requires.more c.requires.tested
    (on_partial c.in-Ok-Partial.is c.in-Ok-Partial.field-0-is c.parse_headers_from.ensures.partial)
    (on_partial c.in-Ok-Partial.is c.in-Ok-Partial.field-0-is c.parse_headers_from.ensures.unfinished))

pub returns-in-TooManyHeaders : goal.returns-in-TooManyHeaders
returns-in-TooManyHeaders c =
    let rest = drop c.args.tested c.args.lines.now in
    section_exceeds_less (length c.args.headers.now) rest (drop_short c.args.lines.now c.args.tested c.requires.limit) (c.in-Err.ensures.too_many (ap Err c.in-TooManyHeaders.is))

pub returns-in_default : goal.returns-in_default
returns-in_default c =
    fields_bad c.args.lines.now c.args.tested c.requires.tested (c.in-Err.ensures.invalid c.in_default.not-TooManyHeaders)
