use Rattle.std.proofs.Common.{◌++◌, ap, ◌∙◌}
use Rattle.json.specs.Print.{print}
use Rattle.json.specs.Tree.{json_tokens}
use Rattle.serde_json.specs.Written.{outline}
use Rattle.serde_json.proofs.Texts.{print-outline}
use Rattle.ee_desk_texts.specs.Data.{reply_data}
use Rattle.ee_desk_texts.proofs.replies.reply_text.Goals as goal

pub returns-clause-text : goal.returns-clause-text
returns-clause-text c =
    let d = reply_data c.args.reply.now in
    let tokens = c.in_ok-write_reply.ensures.1 ∙ ap (λ before. before ++ json_tokens (outline d)) c.new-out.ensures.tokens in
    c.text_of.ensures ∙ ap print tokens ∙ print-outline d
