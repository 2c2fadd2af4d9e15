-- A reply that is given by itself, or by its text.
use Rattle.std.specs.Prelude.{◌≡◌, Bool, true, false, string_bytes, ⊤}
use Rattle.ee_desk_model.specs.declared.replies.Reply.{Reply}
use Rattle.ee_desk_model.specs.declared.replies.Reply.TheVariants as reply
use Rattle.ee_desk_texts.specs.Texts.{reply_text}
use Rattle.ee_desk_texts.specs.declared.given.GivenReply.{GivenReply}
use Rattle.ee_desk_texts.specs.declared.given.GivenReply.TheVariants as given

abbrev pub is_refusal : Reply → Bool
is_refusal (reply.Added new same) = false
is_refusal (reply.Opened day) = false
is_refusal (reply.Ticket ticket) = false
is_refusal (reply.Batch batch) = false
is_refusal (reply.Refused refusal) = true

-- this reply is given: by itself, or by its text if it is no refusal
abbrev pub IsGiven : GivenReply → Reply → Type 0
IsGiven (given.Reply told) reply = told ≡ reply
IsGiven (given.Text text) reply = (string_bytes text ≡ reply_text reply) × (is_refusal reply ≡ false)

-- a reply that is given by itself
abbrev pub IsWhole : GivenReply → Type 0
IsWhole (given.Reply told) = ⊤
IsWhole (given.Text text) = ⊥
