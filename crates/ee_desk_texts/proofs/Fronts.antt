-- How the text of a reply begins.
use Rattle.std.proofs.Common.{◌≡◌, ℕ, List, true, nat_eq, slice_index_or, refl}
use Rattle.json.specs.Print.{escape_byte}
use Rattle.serde_json.specs.Written.{compact_text}
use Rattle.ee_desk_model.specs.Codes.{code_of, name_of}
use Rattle.ee_desk_model.specs.declared.replies.Reply.{Reply}
use Rattle.ee_desk_model.specs.declared.replies.Reply.TheVariants as reply
use Rattle.ee_desk_texts.specs.declared.refusals.Named.{Named}
use Rattle.ee_desk_texts.specs.declared.refusals.Named.TheVariants as named
use Rattle.ee_desk_texts.specs.Data.{names, refused_data}
use Rattle.ee_desk_texts.specs.Given.{is_refusal}
use Rattle.ee_desk_texts.specs.Texts.{reply_text}

refused_front : (code : ℕ) (name : List ℕ) (n : Named) (other : ℕ) → nat_eq (slice_index_or (compact_text (refused_data code name n)) 2 other) 99 ≡ true
unfolding escape_byte
refused_front code name named.Nothing other = refl
refused_front code name (named.Period month) other = refl
refused_front code name (named.Months age) other = refl
refused_front code name (named.Bond serial) other = refl
refused_front code name (named.Paid serial ticket) other = refl

-- the first key begins with a c in a refusal alone
pub first_key : (p : Reply) (other : ℕ) → nat_eq (slice_index_or (reply_text p) 2 other) 99 ≡ is_refusal p
unfolding escape_byte
first_key (reply.Added new same) other = refl
first_key (reply.Opened day) other = refl
first_key (reply.Ticket ticket) other = refl
first_key (reply.Batch batch) other = refl
first_key (reply.Refused r) other = refused_front (code_of r) (name_of r) (names r) other
