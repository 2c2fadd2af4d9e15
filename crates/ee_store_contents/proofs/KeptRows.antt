-- Rows of kept replies.
use Rattle.std.proofs.Common.{◌≡◌, ◌↔◌, ℕ, ◌≤◌, Bool, true, false, not, List, refl, sym, ◌∙◌, subst}
use Rattle.std.specs.Prelude.{Option, Some, None, string_bytes}
use Rattle.std.proofs.lemmas.Bool.{false≢true, not-true}
use Rattle.ee_desk_model.specs.declared.acts.Act.{Act}
use Rattle.ee_desk_model.specs.declared.replies.Reply.{Reply}
use Rattle.ee_desk_model.specs.declared.replies.Reply.TheVariants.{Refused}
use Rattle.ee_desk_model.specs.declared.refusals.Refusal.TheVariants.{NumberReused}
use Rattle.ee_desk_texts.specs.Reading.{ReadsAct, ReadsReply}
use Rattle.ee_desk_texts.proofs.Lemmas.{one_reply}
use Rattle.ee_store_schema.specs.declared.answers.StoredAnswer.{StoredAnswer}
use Rattle.ee_store_contents.specs.Contents.{KeepsAnswer}

pub no_desk : (row : StoredAnswer) → (row.desk ≤ 999 → ⊥) → KeepsAnswer row → ⊥
no_desk row out k = out k.1.is_kept.desk_in_range

pub no_number : (row : StoredAnswer) → ((1 ≤ row.number) × (row.number ≤ 9223372036854775807) → ⊥) → KeepsAnswer row → ⊥
no_number row out k = out k.1.is_kept.number_in_range

pub no_act : (row : StoredAnswer) → ReadsAct (string_bytes row.act) None → KeepsAnswer row → ⊥
no_act row none k = none k.0.act k.1.is_kept.act_in_range k.1.act

pub no_reply : (row : StoredAnswer) → ReadsReply (string_bytes row.reply) None → KeepsAnswer row → ⊥
no_reply row none k = none k.0.reply k.1.is_kept.reply_in_range k.1.reply

not_true : (b : Bool) → (b ≡ true → ⊥) → not b ≡ true
not_true true h = absurd (h refl)
not_true false h = refl

pub keeps_one : (row : StoredAnswer) (a : Act) (r : Reply) (reuse : Bool) → row.desk ≤ 999 → (1 ≤ row.number) × (row.number ≤ 9223372036854775807)
    → ReadsAct (string_bytes row.act) (Some a) → ReadsReply (string_bytes row.reply) (Some r) → (reuse ≡ true) ↔ (r ≡ Refused NumberReused)
    → (not reuse ≡ true) ↔ KeepsAnswer row
keeps_one row a r reuse desk number act reply is = (
  λ fresh. (
    record { act = a; reply = r },
    record {
      is_kept = record { desk_in_range = desk; number_in_range = number; act_in_range = act.0; reply_in_range = reply.0; first = λ e. false≢true (sym (not-true reuse fresh) ∙ is.1 e) };
      act = act.1;
      reply = reply.1;
    },
  ),
  λ k. not_true reuse (λ e. k.1.is_kept.first (sym (one_reply r k.0.reply reply.0 k.1.is_kept.reply_in_range (sym reply.1 ∙ k.1.reply)) ∙ is.0 e)),
)

-- the same, as the texts are read
pub keeps_read : (row : StoredAnswer) (text other : List ℕ) (o : Option Act) (p : Option Reply) (a : Act) (r : Reply) (reuse : Bool) → row.desk ≤ 999 → (1 ≤ row.number) × (row.number ≤ 9223372036854775807)
    → text ≡ string_bytes row.act → other ≡ string_bytes row.reply → ReadsAct text o → ReadsReply other p → o ≡ Some a → p ≡ Some r → (reuse ≡ true) ↔ (r ≡ Refused NumberReused)
    → (not reuse ≡ true) ↔ KeepsAnswer row
keeps_read row text other o p a r reuse desk number same alike act reply is are reused =
    keeps_one row a r reuse desk number
    (subst (λ q. ReadsAct (string_bytes row.act) q) is (subst (λ t. ReadsAct t o) same act))
    (subst (λ q. ReadsReply (string_bytes row.reply) q) are (subst (λ t. ReadsReply t p) alike reply))
    reused
