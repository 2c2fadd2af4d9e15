-- The texts that a content keeps are UTF-8.
use Rattle.std.proofs.Common.{◌≡◌, Option, Some, None, IfSome, refl, sym, ap, ◌∙◌, subst, IsUtf8}
use Rattle.std.specs.Option.{option_map, unwrap_or}
use Rattle.std.specs.FinMap as finite
use Rattle.ee_desk_texts.proofs.Lemmas.{act_text-utf8, reply_text-utf8}
use Rattle.ee_desk_model.specs.declared.changes.Kept.{Kept}
use Rattle.ee_desk_model.specs.Numbers.{RequestKey}
use Rattle.ee_desk_model.specs.Repeats.{Content}
use Rattle.ee_store_tables.specs.Rows.{ReplyRow, IsText}
use Rattle.ee_store_books.specs.Standing.{rows_of, reply_row, reply_rows, IsRight, IsKept}
use Rattle.ee_store_books.proofs.Images.{get_reply}

row_readable : (n : RequestKey) (o : Option Kept) (row : ReplyRow) → IfSome o (IsKept n) → Some row ≡ option_map reply_row o → IsUtf8 row.act × IsUtf8 row.reply
row_readable n None row kept is = absurd (cc)
row_readable n (Some k) row kept is =
    let same : row ≡ reply_row k = ap (λ (o : Option ReplyRow). unwrap_or o row) is in (
      subst (λ (r : ReplyRow). IsUtf8 r.act) (sym same) (act_text-utf8 k.act kept.act_in_range),
      subst (λ (r : ReplyRow). IsUtf8 r.reply) (sym same) (reply_text-utf8 k.reply kept.reply_in_range),
    )

pub reply_texts : (content : Content) → IsRight content → (n : RequestKey) (row : ReplyRow) → finite.get (reply_rows content.kept) n ≡ Some row → IsText row
reply_texts content right n row got = row_readable n (finite.get content.kept n) row (right.kept n) (sym got ∙ get_reply content.kept n)

texts_of : (o : Option ReplyRow) → ((row : ReplyRow) → o ≡ Some row → IsText row) → IfSome o IsText
texts_of None texts = tt
texts_of (Some row) texts = texts row refl

-- the texts that a content keeps are UTF-8
pub kept_texts : (content : Content) → IsRight content → (n : RequestKey) → IfSome (finite.get (rows_of content).answers n) IsText
kept_texts content right n = texts_of (finite.get (rows_of content).answers n) (reply_texts content right n)
