use Rattle.std.proofs.Common.{◌≡◌, Some, ap, sym, subst, ◌∙◌}
use Rattle.std.specs.Prelude.{IfSome}
use Rattle.ee_desk_texts.specs.Texts.{reply_text}
use Rattle.ee_desk_texts.specs.Ranges.{ReplyFits}
use Rattle.ee_desk_texts.proofs.Same.{one_reply}
use Rattle.ee_desk_texts.proofs.reply_reading.read_known_reply.Goals as goal

pub returns-in-Some : goal.returns-in-Some
returns-in-Some c = λ p fits same.
    let it = subst (λ o. IfSome o (λ q. ReplyFits q × (c.args.text.now ≡ reply_text q))) c.in-Some.is c.in_ok-reply.ensures in
    ap Some (one_reply c.in-Some.reply p it.0 fits (sym it.1 ∙ same))
