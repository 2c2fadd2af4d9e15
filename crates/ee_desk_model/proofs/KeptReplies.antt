-- What a keeper in memory keeps, and what it tells.
use Rattle.std.proofs.Common.{◌≡◌, Bool, true, false, cond, List, [], ◌∷◌, Some, None, refl, sym, ap, ◌∙◌}
use Rattle.std.specs.Option.{is_some}
use Rattle.std.specs.Map.{lookup}
use Rattle.std.specs.BTreeMap.{is_at}
use Rattle.std.specs.FinMap as finite
use Rattle.std.specs.FinMap.{FinMap, get-insert, get-remove, same_map}
use Rattle.std.specs.Ordering.{eq_by_cmp}
use Rattle.std.proofs.lemmas.Map.Views.{tells_apart}
use Rattle.ee_desk_model.specs.declared.acts.Request.{Request}
use Rattle.ee_desk_model.specs.declared.changes.Kept.{Kept}
use Rattle.ee_desk_model.specs.Numbers.{RequestKey, number_cmp, number_of}
use Rattle.ee_desk_model.specs.Outcomes.{act}
use Rattle.ee_desk_model.specs.Repeats.{Content}
use Rattle.ee_desk_model.specs.Contents.{content_after}
use Rattle.ee_desk_model.specs.Answers.{reply_again, answer, answer_for}
use Rattle.ee_desk_model.proofs.Maps.{get_lookup}
use Rattle.ee_desk_model.proofs.RequestNumbers.{numbers_total, numbers_exact}
use Rattle.ee_desk_model.proofs.Repeats.{one_new, one_known}

-- a new number: its act and its reply become the content together
pub decided : (S now : Content) (q : Request) → finite.get S.kept (number_of q) ≡ None → now.books ≡ (act S.books q.act).books
    → now.kept ≡ finite.insert S.kept (number_of q) (record { act = q.act; reply = (act S.books q.act).reply }) → now ≡ content_after S (q ∷ [])
decided S now q none books kept = (λ i. record { books = books i; kept = kept i }) ∙ sym (one_new S q (ap is_some none))

-- a number that wasn't kept, put in and taken out again
pub forgotten : (kept : FinMap number_cmp Kept) (n : RequestKey) (k : Kept) → finite.get kept n ≡ None → finite.remove (finite.insert kept n k) n ≡ kept
forgotten kept n k none = same_map numbers_total numbers_exact _ _ (λ m.
    get-remove numbers_total (finite.insert kept n k) n m ∙ ap (cond (eq_by_cmp number_cmp m n) None) (get-insert numbers_total kept n k m) ∙ by_case m (eq_by_cmp number_cmp m n) refl)
  where
    by_case : (m : RequestKey) (b : Bool) → eq_by_cmp number_cmp m n ≡ b → cond b None (cond b (Some k) (finite.get kept m)) ≡ finite.get kept m
    by_case m true same = sym (ap (finite.get kept) (tells_apart numbers_exact m n same) ∙ none)
    by_case m false apart = refl

-- a number that is kept
pub told_again : (S : Content) (q : Request) (kept : Kept) → finite.get S.kept (number_of q) ≡ Some kept → reply_again kept.act kept.reply q.act ≡ answer S [] q
told_again S q kept is = sym (ap (answer_for S [] q) is)

pub stays : (S : Content) (q : Request) (kept : Kept) → finite.get S.kept (number_of q) ≡ Some kept → S ≡ content_after S (q ∷ [])
stays S q kept is = sym (one_known S q (ap is_some is))

pub told_new : (S : Content) (q : Request) → finite.get S.kept (number_of q) ≡ None → (act S.books q.act).reply ≡ answer S [] q
told_new S q none = sym (ap (answer_for S [] q) none)

pub get_kept : (es : List (RequestKey × Kept)) (n : RequestKey) → finite.get (finite.from_entries {R = number_cmp} es) n ≡ lookup (is_at (number_cmp n)) es
get_kept es n = get_lookup numbers_total es n
