use Rattle.std.proofs.Common.{◌++◌, ap, ◌∙◌}
use Rattle.json.specs.Print.{print}
use Rattle.json.specs.Tree.{json_tokens}
use Rattle.serde_json.specs.Written.{outline}
use Rattle.serde_json.proofs.Texts.{print-outline}
use Rattle.ee_wire.specs.Answers.{row_data}
use Rattle.ee_wire.proofs.bodies.row_text.Goals as goal

pub returns : goal.returns
returns c =
    let d = row_data c.args.row.now in
    let tokens = c.in_ok-write_row.ensures.1 ∙ ap (λ before. before ++ json_tokens (outline d)) c.new-out.ensures.tokens in
    c.text_of.ensures ∙ ap print tokens ∙ print-outline d
