-- The books and the reply of an act.
use Rattle.ee_desk_model.specs.declared.acts.Act.{Act}
use Rattle.ee_desk_model.specs.declared.replies.Reply.{Reply}
use Rattle.ee_desk_model.specs.PlainBooks.{PlainBooks}
use Rattle.ee_desk_model.specs.Acts.{books_after, reply_to}

pub record Outcome : Type 0 where
  pub books : PlainBooks
  pub reply : Reply

abbrev pub act : PlainBooks → Act → Outcome
act books asked = record { books = books_after books asked; reply = reply_to books asked }
