use Rattle.std.proofs.Common.{◌+◌, ◌≤◌, length, sym, ◌∙◌, inr, arith, length-drop}
use Rattle.ee_wire_framing.proofs.More.{bad_fields, whole_message, begins_at}
use Rattle.ee_wire_framing.proofs.front.with_body.Goals as goal

pub returns-in-Err : goal.returns-in-Err
returns-in-Err c = λ more.
    let h = c.requires.head in
    bad_fields c.args.bytes.now more c.in-Err.fault (h.0, _, begins_at c.args.bytes.now c.args.head h.0 c.requires.limit h.1, sym h.1.body ∙ c.in-Err.is)

pub returns : goal.returns
returns c =
    let h = c.requires.head in
    let fits : c.args.head.len + c.in-Ok.len ≤ length c.args.bytes.now = let k = h.1.in_bytes in let m = c.if-bytes-head.false in omega arith in
    (fits, whole_message c.args.bytes.now c.args.head h.0 c.in-Ok.len c.requires.limit h.1 c.in-Ok.is fits)

pub returns-then-bytes-head : goal.returns-then-bytes-head
returns-then-bytes-head c =
    let h = c.requires.head in
    let cut = c.if-bytes-head.true in
    inr (h.0, _, c.in-Ok.len, begins_at c.args.bytes.now c.args.head h.0 c.requires.limit h.1, sym h.1.body ∙ c.in-Ok.is, omega (arith, length-drop c.args.head.len c.args.bytes.now))
