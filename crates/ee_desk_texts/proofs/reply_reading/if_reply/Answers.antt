use Rattle.std.proofs.Common.{sym, ◌∙◌}
use Rattle.ee_desk_texts.proofs.Same.{differ}
use Rattle.ee_desk_texts.proofs.reply_reading.if_reply.Goals as goal

pub returns-else-eq : goal.returns-else-eq
returns-else-eq c = λ same. differ c.as_str.result.now c.args.text.now c.if-eq.ensures (c.as_str.ensures.value ∙ c.in_ok-reply_text.ensures.text ∙ sym same)
