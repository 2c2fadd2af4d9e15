use Rattle.std.proofs.Common.{◌-◌, ◌<◌, length, drop, take, arith}
use Rattle.std.proofs.lemmas.Bool.Decides.{nat_tests}
use Rattle.ee_wire_framing.proofs.Messages.{cut_at, fault_at, message_at}
use Rattle.ee_wire_framing.proofs.WholeLines.{rest_is}
use Rattle.ee_wire_framing.proofs.laws.every_split_law.Goals as goal

pub loop-len-preserved : goal.loop-len-preserved
loop-len-preserved c =
    let i = c.loop-len.invariant in
    let bytes = c.args.bytes.now in
    let more = message_at bytes (take (length bytes - c.loop-len.at) (drop c.loop-len.at bytes)) c.loop-len.at c.in-Message.len c.in-Message.field-0
    (rest_is bytes c.loop-len.at) i.inside i.begins c.in-Message.ensures in
    record { inside = more.0; begins = more.2 }

pub returns-in-Fault : goal.returns-in-Fault
returns-in-Fault c =
    let bytes = c.args.bytes.now in
    fault_at bytes (take (length bytes - c.loop-len.at) (drop c.loop-len.at bytes)) c.loop-len.at c.in-Fault.fault (rest_is bytes c.loop-len.at) c.loop-len.invariant.begins c.in-Fault.ensures

pub returns-in-More-2 : goal.returns-in-More-2
returns-in-More-2 c =
    let bytes = c.args.bytes.now in
    let rest = take (length bytes - c.loop-len.at) (drop c.loop-len.at bytes) in
    let e = c.is_empty.ensures in
    let f = c.if-is_empty.false in
    let some : 0 < length rest = grind (arith, nat_tests, e, f) in
    cut_at bytes rest c.loop-len.at (rest_is bytes c.loop-len.at) c.loop-len.invariant.begins some c.in-More-2.ensures
