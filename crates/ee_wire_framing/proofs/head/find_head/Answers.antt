use Rattle.std.proofs.Common.{◌+◌, ◌≤◌, Some, None, subst, arith, length-take}
use Rattle.ee_wire_framing.specs.Heads.{IsLastLineFeed, length_of}
use Rattle.ee_wire_framing.proofs.Tested.{judged, unfound, begins_front}
use Rattle.ee_wire_framing.proofs.head.find_head.Goals as goal

pub judge_lines-requires-clause-tested : goal.judge_lines-requires-clause-tested
judge_lines-requires-clause-tested c =
    let last = subst (IsLastLineFeed c.args.bytes.now c.args.tested c.min.result) c.in-Some.is c.last_line_feed.ensures in
    let ordered : length_of c.args.lines ≤ c.args.tested = c.requires.ordered in
    let after : c.args.tested ≤ c.in-Some.at = last.0 in
    begins_front c.args.bytes.now (c.in-Some.at + 1) c.args.lines (omega arith) c.requires.begins

pub judge_lines-requires-clause-more : goal.judge_lines-requires-clause-more
judge_lines-requires-clause-more c =
    let last = subst (IsLastLineFeed c.args.bytes.now c.args.tested c.min.result) c.in-Some.is c.last_line_feed.ensures in
    let ordered : length_of c.args.lines ≤ c.args.tested = c.requires.ordered in
    let after : c.args.tested ≤ c.in-Some.at = last.0 in
    let inside = last.1 in
    let end = c.min.ensures in
    omega (arith, length-take (c.in-Some.at + 1) c.args.bytes.now)

pub returns-in-None : goal.returns-in-None
returns-in-None c =
    unfound c.args.bytes.now c.args.lines c.args.tested c.requires
    (subst (λ n. IsLastLineFeed c.args.bytes.now c.args.tested n None) c.min.ensures
    (subst (IsLastLineFeed c.args.bytes.now c.args.tested c.min.result) c.in-None.is c.last_line_feed.ensures))

pub returns-in-Some : goal.returns-in-Some
returns-in-Some c =
    judged c.args.bytes.now c.args.tested c.in-Some.at c.judge_lines.result
    (subst (λ n. IsLastLineFeed c.args.bytes.now c.args.tested n (Some c.in-Some.at)) c.min.ensures
    (subst (IsLastLineFeed c.args.bytes.now c.args.tested c.min.result) c.in-Some.is c.last_line_feed.ensures)) c.judge_lines.ensures
