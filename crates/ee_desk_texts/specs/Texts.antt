-- The texts of acts and replies: their JSON, compact (this project's rule).
use Rattle.std.specs.Prelude.{ℕ, List}
use Rattle.serde_json.specs.Written.{compact_text}
use Rattle.ee_desk_model.specs.declared.acts.Act.{Act}
use Rattle.ee_desk_model.specs.declared.replies.Reply.{Reply}
use Rattle.ee_desk_texts.specs.Data.{act_data, reply_data}

-- the canonical text of an act
abbrev pub act_text : Act → List ℕ
act_text act = compact_text (act_data act)

-- the text of a reply
abbrev pub reply_text : Reply → List ℕ
reply_text reply = compact_text (reply_data reply)
