use Rattle.std.proofs.Common.{arith}
use Rattle.ee_store_contents.proofs.KeptRows.{keeps_read}
use Rattle.ee_store_contents.proofs.answers.keeps_answer.Goals as goal

pub returns : goal.returns
returns c =
    let desk = c.if-row-gt999.false in
    let low = c.if-row-lt1.false in
    let high = c.if-row-gt9223372036854775807.false in
    keeps_read c.args.row.now c.as_str.result.now c.as_str-2.result.now c.in_ok-_act.field-0 c.in_ok-reply.field-0 c.in-Some._act c.in-Some-2.reply c.is_reuse.result
    (omega (arith, desk)) (omega (arith, low), omega (arith, high)) c.as_str.ensures.value c.as_str-2.ensures.value c.in_ok-_act.ensures c.in_ok-reply.ensures c.in-Some.is c.in-Some-2.is c.is_reuse.ensures
