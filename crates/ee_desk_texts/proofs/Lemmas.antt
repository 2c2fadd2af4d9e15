-- Lemmas that the proofs of crates above use.
use Rattle.std.proofs.Common.{IsUtf8, List, ◌++◌, ◌≡◌}
use Rattle.json.specs.Token as token
use Rattle.json.specs.Written.{Written}
use Rattle.ee_desk_model.specs.declared.acts.Act.{Act}
use Rattle.ee_desk_model.specs.declared.replies.Reply.{Reply}
use Rattle.ee_desk_texts.specs.Ranges.{ActFits, ReplyFits}
use Rattle.ee_desk_texts.specs.Texts.{act_text, reply_text}
use Rattle.ee_desk_texts.specs.Writing.{Added}
use Rattle.ee_desk_texts.proofs.Ascii
use Rattle.ee_desk_texts.proofs.Pieces
use Rattle.ee_desk_texts.proofs.Same

-- ---- texts of acts and replies
-- a text is the canonical text of one act
pub one_act : (a b : Act) → ActFits a → ActFits b → act_text a ≡ act_text b → a ≡ b
one_act = Same.one_act

-- a text is the text of one reply
pub one_reply : (p q : Reply) → ReplyFits p → ReplyFits q → reply_text p ≡ reply_text q → p ≡ q
one_reply = Same.one_reply

-- the text of an act is UTF-8: it is ASCII
pub act_text-utf8 : (a : Act) → ActFits a → IsUtf8 (act_text a)
act_text-utf8 = Ascii.act_text-utf8

-- so is the text of a reply
pub reply_text-utf8 : (r : Reply) → ReplyFits r → IsUtf8 (reply_text r)
reply_text-utf8 = Ascii.reply_text-utf8

-- ---- JSON that is written a value at a time
-- one piece after another
pub and_then : (old mid new : Written) (a b : List token.Token) → Added old mid a → Added mid new b → Added old new (a ++ b)
and_then = Pieces.and_then
