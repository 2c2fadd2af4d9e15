-- The kept reply by the texts of acts.
use Rattle.std.proofs.Common.{◌≡◌, ◌≢◌, ℕ, cond, List, sym, ap, ◌∙◌, subst}
use Rattle.std.proofs.lemmas.Bool.{false_from_ne_true}
use Rattle.ee_desk_model.specs.declared.acts.Act.{Act}
use Rattle.ee_desk_model.specs.declared.changes.Kept.{Kept}
use Rattle.ee_desk_model.specs.declared.replies.Reply.{Reply}
use Rattle.ee_desk_model.specs.declared.replies.Reply.TheVariants.{Refused}
use Rattle.ee_desk_model.specs.declared.refusals.Refusal.TheVariants.{NumberReused}
use Rattle.ee_desk_model.specs.Acts.{same_act}
use Rattle.ee_desk_model.specs.Numbers.{RequestKey}
use Rattle.ee_desk_model.specs.Answers.{reply_again}
use Rattle.ee_desk_model.proofs.Lemmas.Requests.{same_act-is, same_act-self}
use Rattle.ee_desk_texts.proofs.Lemmas.{one_act}
use Rattle.ee_desk_texts.specs.Given.{IsGiven}
use Rattle.ee_desk_texts.specs.declared.given.GivenReply.{GivenReply}
use Rattle.ee_desk_texts.specs.declared.given.GivenReply.TheVariants as given
use Rattle.ee_desk_texts.specs.Ranges.{ActFits, ReplyFits}
use Rattle.ee_desk_texts.specs.Texts.{act_text, reply_text}
use Rattle.ee_store_books.specs.Standing.{IsKept}

abbrev pub IsAgain : List ℕ → List ℕ → List ℕ → GivenReply → Type 0
IsAgain act reply asked told = (number : RequestKey) (kept : Kept) (again : Act) → IsKept number kept → ActFits again
    → act ≡ act_text kept.act → reply ≡ reply_text kept.reply → asked ≡ act_text again → IsGiven told (reply_again kept.act kept.reply again)

pub of_other : (act reply asked : List ℕ) → act ≢ asked → IsAgain act reply asked (given.Reply (Refused NumberReused))
of_other act reply asked apart number kept again is fits one two three =
    let differs = false_from_ne_true (same_act kept.act again) (λ same. apart (one ∙ ap act_text (same_act-is kept.act again same) ∙ sym three)) in
    sym (ap (λ b. cond b kept.reply (Refused NumberReused)) differs)

-- a text that is known to be a reply's is given again as this
abbrev pub GivesKnown : List ℕ → GivenReply → Type 0
GivesKnown reply told = (p : Reply) → ReplyFits p → reply ≡ reply_text p → IsGiven told p

pub of_same : (act reply asked : List ℕ) (told : GivenReply) → act ≡ asked → GivesKnown reply told → IsAgain act reply asked told
of_same act reply asked told same gives number kept again is fits one two three =
    let acts = one_act kept.act again is.act_in_range fits (sym one ∙ same ∙ three) in
    let is_same = ap (same_act kept.act) (sym acts) ∙ same_act-self kept.act in
    subst (IsGiven told) (sym (ap (λ b. cond b kept.reply (Refused NumberReused)) is_same)) (gives kept.reply is.reply_in_range two)
