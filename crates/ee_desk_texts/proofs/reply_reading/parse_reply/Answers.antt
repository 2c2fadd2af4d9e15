use Rattle.std.proofs.Common.{rules, ◌≡◌, Some, None, Err, ◌∙◌}
use Rattle.std.proofs.lemmas.Result.{IfOk-weaker}
use Rattle.json.specs.declared.error.Error.TheVariants.{Invalid}
use Rattle.json.specs.Value.{value_view}
use Rattle.ee_desk_texts.proofs.Same.{reply_in}
use Rattle.ee_desk_texts.proofs.reply_reading.parse_reply.Goals as goal

pub returns-in-Err-Invalid : goal.returns-in-Err-Invalid
returns-in-Err-Invalid c = λ p fits same.
    reply_in c.args.text.now None (let is : c.parse.result ≡ Err Invalid = search rules in c.parse.ensures.invalid is) p fits same

pub returns : goal.returns
returns c =
    IfOk-weaker c.reply_in.result _ _ (λ o exact p fits same. exact ∙ reply_in c.args.text.now (Some (value_view c.in-Ok.value)) c.in-Ok.ensures.ok p fits same) c.reply_in.ensures
