use Rattle.std.proofs.Common.{sym, ap, ◌∙◌}
use Rattle.std.specs.List.{list_all}
use Rattle.httparse.specs.Pieces.{is_newline}
use Rattle.ee_wire_framing.proofs.WholeLines.{rest_is, rest_started}
use Rattle.ee_wire_framing.proofs.head.judge_after.Goals as goal

pub judge-requires-clause-started : goal.judge-requires-clause-started
judge-requires-clause-started c =
    rest_started c.args.lines.now c.in-Empty.len
    (ap (list_all is_newline) (sym (rest_is c.args.lines.now c.in-Empty.len)) ∙ sym c.has_line_ends_alone.ensures ∙ c.if-has_line_ends_alone.false)
