use Rattle.std.proofs.Common.{ap, ◌∙◌, ◌++◌}
use Rattle.ee_wire.specs.Heads.{line}
use Rattle.ee_wire.proofs.Texts.{joined}
use Rattle.ee_wire.proofs.heads.head_text.Goals as goal

pub returns : goal.returns
returns c =
    joined c.args.status c.args.kind c.args.length c.args.closing
    c.new-text.result.items c.push_line.new.out.items c.push_line-2.new.out.items c.push_line-3.new.out.items c.push_closing.new.out.items c.push_line-4.new.out.items
    c.new-text.ensures.items
    (c.in_ok-push_line.ensures ∙ ap (λ l. c.new-text.result.items ++ line l) c.status_line.ensures)
    (c.in_ok-push_line-2.ensures ∙ ap (λ l. c.push_line.new.out.items ++ line l) c.kind_line.ensures)
    (c.in_ok-push_line-3.ensures ∙ ap (λ l. c.push_line-2.new.out.items ++ line l) (c.as_str.ensures.value ∙ c.in_ok-format.ensures.ok))
    c.in_ok-push_closing.ensures
    c.in_ok-push_line-4.ensures
