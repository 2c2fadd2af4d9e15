use Rattle.std.proofs.Common.{◌≡◌, ◌+◌, ◌++◌, take, drop, sym, ap, ◌∙◌, rules}
use Rattle.std.proofs.Math.Seq.{take-add}
use Rattle.std.proofs.lemmas.List.{drop-drop}
use Rattle.ee_wire_framing.specs.Stream.{Stream}
use Rattle.ee_wire_framing.proofs.buffer.Buffer.show.Goals as goal

pub returns : goal.returns
returns c =
    let from = c.self.inside.at in
    let items = c.self.inside.bytes.items in
    let len = c.args.len in
    let shown : take (from + len) items ≡ take len c.args.self.now.held =
    take-add from len items
    ∙ ap (λ l. l ++ take len (drop from items)) (ap (λ (s : Stream). s.shown) c.self.view_is ∙ c.requires.none)
    ∙ ap (λ (s : Stream). take len s.held) c.self.view_is in
    let held : drop (from + len) items ≡ drop len c.args.self.now.held =
    sym (drop-drop len from items) ∙ ap (λ (s : Stream). drop len s.held) c.self.view_is in
    λ i. record { shown = shown i; held = held i; ended = (c.self.view_is i).ended }

pub invariant_of-self : goal.invariant_of-self
invariant_of-self c = search rules
