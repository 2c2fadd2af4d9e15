use Rattle.std.proofs.Common.{◌≡◌, ◌<◌, ◌++◌, take, drop, ap, ◌∙◌, arith, length, length-take, length-drop, length-append}
use Rattle.ee_wire_framing.specs.Stream.{Stream}
use Rattle.ee_wire_framing.proofs.Tested.{knows_read}
use Rattle.ee_wire_framing.proofs.buffer.Buffer.read_more.Goals as goal

pub invariant_of-self-in-Ok : goal.invariant_of-self-in-Ok
invariant_of-self-in-Ok g c =
    let bytes = c.self.inside.bytes.items in
    let got = take c.in-Ok.n c.read_once.new.buf in
    let all : c.extend_from_slice.new.self.items ≡ bytes ++ got = c.in-Ok-extend_from_slice.ensures.items ∙ ap (λ l. l ++ got) c.reserve.ensures.items in
    let size = simp length-append at (ap length all) in
    let none : length (take c.self.inside.at bytes) ≡ 0 = ap (λ (s : Stream). length s.shown) c.self.view_is ∙ ap length c.requires.none in
    let held : length (drop c.self.inside.at bytes) ≡ length c.args.self.now.held = ap (λ (s : Stream). length s.held) c.self.view_is in
    let few : length c.args.self.now.held < 1064960 = c.requires.room in
    let a = length-take c.self.inside.at bytes in
    let b = length-drop c.self.inside.at bytes in
    let inside = c.self.invariant.0 in
    let n = c.in-Ok.ensures.bound.0 in (
      omega arith,
      omega (arith, length-take c.in-Ok.n c.read_once.new.buf),
      knows_read bytes got c.extend_from_slice.new.self.items c.self.inside.at c.self.inside.progress all inside c.self.invariant.2,
    )

pub returns-then-is_err-clause-failed : goal.returns-then-is_err-clause-failed
returns-then-is_err-clause-failed g c = λ is. absurd (cc)
