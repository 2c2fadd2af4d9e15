use Rattle.std.proofs.Common.{◌++◌, ap, ◌∙◌}
use Rattle.json.specs.Print.{print}
use Rattle.json.specs.Tree.{json_tokens}
use Rattle.serde_json.specs.Written.{outline}
use Rattle.serde_json.proofs.Texts.{print-outline}
use Rattle.ee_desk_texts.specs.Data.{act_data}
use Rattle.ee_desk_texts.proofs.acts.canonical.Goals as goal

pub returns-clause-text : goal.returns-clause-text
returns-clause-text c =
    let d = act_data c.args.act.now in
    let tokens = c.in_ok-write_act.ensures.1 ∙ ap (λ before. before ++ json_tokens (outline d)) c.new-out.ensures.tokens in
    c.text_of.ensures ∙ ap print tokens ∙ print-outline d
