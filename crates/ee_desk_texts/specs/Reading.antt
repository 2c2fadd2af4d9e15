-- The act or reply that a JSON value represents. The readers are lenient; a text is accepted only if it is the canonical
-- text of what was read.
use Rattle.std.specs.Prelude.{◌≡◌, ◌≢◌, ℕ, List, Option, MatchOption}
use Rattle.ee_desk_model.specs.declared.acts.Act.{Act}
use Rattle.ee_desk_model.specs.declared.replies.Reply.{Reply}
use Rattle.ee_desk_texts.specs.Texts.{act_text, reply_text}
use Rattle.ee_desk_texts.specs.Ranges.{ActFits, ReplyFits}

-- ---- acts

-- an act in range whose canonical text this is, or None if there is none
abbrev pub ReadsAct : List ℕ → Option Act → Type 0
ReadsAct text o = MatchOption o ((a : Act) → ActFits a → text ≢ act_text a) (λ a. ActFits a × (text ≡ act_text a))

-- ---- replies

-- a reply in range whose text this is, or None if there is none
abbrev pub ReadsReply : List ℕ → Option Reply → Type 0
ReadsReply text o = MatchOption o ((p : Reply) → ReplyFits p → text ≢ reply_text p) (λ p. ReplyFits p × (text ≡ reply_text p))
