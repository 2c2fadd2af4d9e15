use Rattle.std.proofs.Common.{◌-◌, ◌∙◌, Err, ap, length, take, drop, subst}
use Rattle.std.specs.List.{list_all}
use Rattle.httparse.specs.Grammar.{HasNoRequest, NeverHasRequest, MayBecomeRequest}
use Rattle.httparse.specs.Pieces.{is_newline}
use Rattle.httparse.proofs.HeadLemmas.{on_partial}
use Rattle.ee_wire_framing.proofs.Heads.{by_error}
use Rattle.ee_wire_framing.proofs.WholeLines.{no_head_here, empty_after, empty_bad, whole_empty, rest_is, empty_no_exceeds}
use Rattle.ee_wire_framing.proofs.head.judge_empty.Goals as goal

pub unreachable-requires : goal.unreachable-requires
unreachable-requires c =
    let lines = c.args.lines.now in
    let tested = c.args.tested in
    no_head_here (take (length lines - tested) (drop tested lines)) _ c.in-Ok-Complete.is c.in-Ok-Complete.field-0-is c.parse_request.ensures.complete
    (ap (list_all is_newline) (rest_is lines tested) ∙ c.requires.empty)

pub returns-in-Ok-Partial : goal.returns-in-Ok-Partial
returns-in-Ok-Partial c =
    let lines = c.args.lines.now in
    let tested = c.args.tested in
    whole_empty lines
    (empty_after lines tested c.requires.lines c.requires.more c.requires.tested c.requires.empty
    (subst HasNoRequest (rest_is lines tested) (on_partial c.in-Ok-Partial.is c.in-Ok-Partial.field-0-is c.parse_request.ensures.partial))
    (subst MayBecomeRequest (rest_is lines tested) (on_partial c.in-Ok-Partial.is c.in-Ok-Partial.field-0-is c.parse_request.ensures.unfinished)))

pub returns-in-Err : goal.returns-in-Err
returns-in-Err c =
    let lines = c.args.lines.now in
    let tested = c.args.tested in
    let rest = take (length lines - tested) (drop tested lines) in
    empty_bad lines tested c.requires.tested
    (subst NeverHasRequest (rest_is lines tested)
    (by_error c.in-Err.field-0 c.in-Err.ensures.invalid (λ y.
    absurd (empty_no_exceeds _ rest (ap (list_all is_newline) (rest_is lines tested) ∙ c.requires.empty) (c.in-Err.ensures.too_many (ap Err y))))))
