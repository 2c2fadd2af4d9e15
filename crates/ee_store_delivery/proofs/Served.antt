-- What a request leaves in a transaction.
use Rattle.std.proofs.Common.{◌≡◌, ◌≢◌, ℕ, ◌≤◌, true, false, not, List, [], ◌∷◌, Option, Some, None, refl, sym, ap, ◌∙◌, subst}
use Rattle.std.specs.Prelude.{IfSome, is_some}
use Rattle.std.specs.Option.{option_map, unwrap_or}
use Rattle.std.specs.FinMap as finite
use Rattle.sqlite.specs.State.{State, IsUnchanged}
use Rattle.ee_desk_model.specs.declared.acts.Request.{Request}
use Rattle.ee_desk_model.specs.declared.replies.Reply.{Reply}
use Rattle.ee_desk_model.specs.declared.changes.Change.{Change}
use Rattle.ee_desk_model.specs.declared.changes.Effects.{Effects}
use Rattle.ee_desk_model.specs.declared.changes.Kept.{Kept}
use Rattle.ee_desk_model.specs.Numbers.{RequestKey, number_of}
use Rattle.ee_desk_model.specs.Seen.{shown}
use Rattle.ee_desk_model.specs.Effects.{effects_of}
use Rattle.ee_desk_model.specs.Outcomes.{act}
use Rattle.ee_desk_model.specs.Repeats.{Content}
use Rattle.ee_desk_model.specs.Contents.{content_after}
use Rattle.ee_desk_model.proofs.Lemmas.Requests.{answer_again, content_after-kept, content_after-new, answer_new}
use Rattle.ee_store_tables.proofs.Lemmas.Transactions.{unchanged_sees}
use Rattle.ee_store_books.proofs.Lemmas.Contents.{get_reply_row}
use Rattle.ee_desk_texts.specs.Ranges.{ActFits, ReplyFits}
use Rattle.ee_desk_texts.specs.Texts.{act_text, reply_text}
use Rattle.ee_desk_texts.specs.Given.{IsGiven}
use Rattle.ee_desk_texts.specs.declared.given.GivenReply.{GivenReply}
use Rattle.ee_desk_texts.specs.declared.given.GivenReply.TheVariants as given
use Rattle.ee_store_tables.specs.Rows.{Rows, ReplyRow, Sees, with_answer}
use Rattle.ee_store_books.specs.Standing.{rows_of, reply_row, IsRight, IsKept}
use Rattle.ee_store_delivery.specs.Inner.Written.{applied_rows}
use Rattle.ee_store_books.specs.Seen.{SeesContent}
use Rattle.ee_store_delivery.specs.declared.known.Known.{Known}
use Rattle.ee_store_delivery.specs.Known.{AreKnown}
use Rattle.ee_store_delivery.specs.Inner.Delivered.{IsDecided, IsToldIn}
use Rattle.ee_store_delivery.proofs.Again.{IsAgain}
use Rattle.ee_store_delivery.proofs.Delivered.{rows_after, right_after}

-- the day that was closed last matters only if something is changed
same_rows : (last day : Option ℕ) (rows : Rows) (changes : List Change) → (changes ≢ [] → last ≡ day) → applied_rows last rows changes ≡ applied_rows day rows changes
same_rows last day rows [] is = refl
same_rows last day rows (c ∷ cs) is = ap (λ d. applied_rows d rows (c ∷ cs)) (is (λ none. absurd (cc)))

-- a number that isn't kept: its changes and its reply are written
pub is_decided : (new : State) (q : Request) (S : Content) (changes : List Change) (reply : Reply) (last : Option ℕ) (row : ReplyRow)
    → IsRight S → finite.get S.kept (number_of q) ≡ None → ActFits q.act → (number_of q).0 ≤ 999 → (1 ≤ (number_of q).1) × ((number_of q).1 ≤ 9223372036854775807) → ReplyFits reply
    → record { changes = changes; reply = reply } ≡ effects_of (shown S.books) q.act → (changes ≢ [] → last ≡ S.books.last_day)
    → row ≡ record { act = act_text q.act; reply = reply_text reply }
    → Sees new (with_answer (applied_rows last (rows_of S) changes) (number_of q) row) → IsDecided new q S reply
is_decided new q S changes reply last row right none fits here numbered told effects day words sees =
    let says = ap (λ (e : Effects). e.reply) effects in
    let range = subst ReplyFits says told in
    let rows = rows_after S q right none fits here numbered range in
    let own = words ∙ ap (λ r. record { act = act_text q.act; reply = reply_text r }) says in
    record {
      told = says;
      seen = record {
        right = right_after S q right none fits here numbered range;
        rows = subst (Sees new)
            (ap (λ made. with_answer made (number_of q) row) (same_rows last S.books.last_day (rows_of S) changes day)
            ∙ (λ i. with_answer (applied_rows S.books.last_day (rows_of S) (effects i).changes) (number_of q) (own i)) ∙ sym rows) sees;
      };
    }

pub kept_by : (row : ReplyRow) (o : Option Kept) → Some row ≡ option_map reply_row o → (kept : Kept) × (o ≡ Some kept) × (row ≡ reply_row kept)
kept_by row None is = absurd (cc)
kept_by row (Some kept) is = (kept, refl, ap (λ o. unwrap_or o row) is)

-- a number that is kept: nothing changes
pub is_again : (old new : State) (known : Known) (q : Request) (S : Content) (row : ReplyRow) (reply : GivenReply) → IsUnchanged old new → SeesContent old S
    → Some row ≡ finite.get (rows_of S).answers (number_of q) → ActFits q.act → IsAgain row.act row.reply (act_text q.act) reply → IsToldIn new known q S false reply
is_again old new known q S row reply same sees is fits again =
    let found = kept_by row (finite.get S.kept (number_of q)) (is ∙ get_reply_row S.kept (number_of q)) in
    let kept = found.0 in
    let kept_is = found.1 in
    let right = subst (λ o. IfSome o (IsKept (number_of q))) kept_is (sees.right.kept (number_of q)) in
    let stays = content_after-kept S q kept kept_is in
    record {
      first = sym (ap (λ o. not (is_some o)) kept_is);
      served = λ _. record {
        told = subst (IsGiven reply) (answer_again S q kept kept_is) (again (number_of q) kept q.act right fits (ap (λ r. r.act) found.2) (ap (λ r. r.reply) found.2) refl);
        seen = subst (SeesContent new) stays (record { right = sees.right; rows = unchanged_sees old new (rows_of S) same sees.rows });
      };
    }

-- and what is known stays so
pub known_again : (known : Known) (q : Request) (S : Content) (row : ReplyRow) → Some row ≡ finite.get (rows_of S).answers (number_of q)
    → AreKnown known S.books → AreKnown known (content_after S (q ∷ [])).books
known_again known q S row is are =
    let found = kept_by row (finite.get S.kept (number_of q)) (is ∙ get_reply_row S.kept (number_of q)) in
    subst (λ (s : Content). AreKnown known s.books) (content_after-kept S q found.0 found.1) are

not_kept : (o : Option Kept) → None ≡ option_map reply_row o → o ≡ None
not_kept None is = refl
not_kept (Some kept) is = absurd (cc)

pub is_new : (S : Content) (n : RequestKey) → None ≡ finite.get (rows_of S).answers n → finite.get S.kept n ≡ None
is_new S n is = not_kept (finite.get S.kept n) (is ∙ get_reply_row S.kept n)

pub is_first : (new : State) (known : Known) (q : Request) (S : Content) (reply : Reply) → finite.get S.kept (number_of q) ≡ None
    → (AreKnown known S.books → IsDecided new q S reply) → IsToldIn new known q S true (given.Reply reply)
is_first new known q S reply none is = record {
  first = sym (ap (λ o. not (is_some o)) none);
  served = λ are. record { told = (is are).told ∙ answer_new S q none; seen = (is are).seen };
}

-- what is known of the books after the act of a new number is known of the content after its request
pub known_first : (known : Known) (q : Request) (S : Content) → finite.get S.kept (number_of q) ≡ None
    → AreKnown known (act S.books q.act).books → AreKnown known (content_after S (q ∷ [])).books
known_first known q S none are = subst (λ (s : Content). AreKnown known s.books) (sym (content_after-new S q (ap is_some none))) are
