-- What the books keep and answer, after requests.
use Rattle.std.proofs.Common.{◌≡◌, ◌≢◌, Bool, true, false, cond, ◌||◌, List, [], ◌∷◌, Option, Some, None, true≢false, refl, sym, ap, ◌∙◌, subst}
use Rattle.std.specs.Option.{is_some}
use Rattle.std.specs.List.{AllByRecursion, list_any, find}
use Rattle.std.specs.FinMap as finite
use Rattle.ee_desk_model.specs.declared.acts.Act.{Act}
use Rattle.ee_desk_model.specs.declared.acts.Request.{Request}
use Rattle.ee_desk_model.specs.declared.changes.Kept.{Kept}
use Rattle.ee_desk_model.specs.declared.refusals.Refusal.TheVariants.{NumberReused}
use Rattle.ee_desk_model.specs.declared.replies.Reply.{Reply}
use Rattle.ee_desk_model.specs.declared.replies.Reply.TheVariants.{Refused}
use Rattle.ee_desk_model.specs.Acts.{same_act, books_after as books_after_act}
use Rattle.ee_desk_model.specs.Answers.{answer, answer_for, answer_by, reply_again, is_of, before}
use Rattle.ee_desk_model.specs.Contents.{acted, content_after, books_after}
use Rattle.ee_desk_model.specs.Numbers.{RequestKey, same_number, number_of}
use Rattle.ee_desk_model.specs.Outcomes.{act}
use Rattle.ee_desk_model.specs.PlainBooks.{PlainBooks}
use Rattle.ee_desk_model.specs.Ranges.{IsActInRange}
use Rattle.ee_desk_model.specs.Repeats.{Content, once}
use Rattle.ee_desk_model.specs.Seen.{shown}
use Rattle.ee_desk_model.specs.Sound.{IsSound}
use Rattle.ee_desk_model.proofs.Lemmas.Books.{never_reused}
use Rattle.ee_desk_model.proofs.Lemmas.Maps.{same_number-is, same_number-self}
use Rattle.ee_desk_model.proofs.Lemmas.Requests.{content_after-known, content_after-new, content_after-first, get_kept-insert, get_kept-own, answer_after, answer_again, same_act-is, same_act-self}
use Rattle.ee_desk_laws.proofs.Lemmas.{contained}
use Rattle.ee_client.proofs.Counting.{found, all_once}

-- ---- what is kept stays kept
stays_one : (C : Content) (q : Request) (n : RequestKey) → finite.contains_key C.kept n ≡ true → finite.contains_key (content_after C (q ∷ [])).kept n ≡ true
stays_one C q n h = by_case (finite.contains_key C.kept (number_of q)) refl
  where
    other : (b : Bool) → is_some (cond b (Some (record { act = q.act; reply = (act C.books q.act).reply })) (finite.get C.kept n)) ≡ true
    other true = refl
    other false = h

    by_case : (b : Bool) → finite.contains_key C.kept (number_of q) ≡ b → finite.contains_key (content_after C (q ∷ [])).kept n ≡ true
    by_case true known = ap (λ T. finite.contains_key T.kept n) (content_after-known C q known) ∙ h
    by_case false new =
        ap (λ T. finite.contains_key T.kept n) (content_after-new C q new) ∙ ap is_some (get_kept-insert C.kept (number_of q) _ n) ∙ other (same_number n (number_of q))

stays : (C : Content) (all : List Request) (n : RequestKey) → finite.contains_key C.kept n ≡ true → finite.contains_key (content_after C all).kept n ≡ true
stays C [] n h = h
stays C (q ∷ all) n h = ap (λ T. finite.contains_key T.kept n) (content_after-first C q all) ∙ stays (content_after C (q ∷ [])) all n (stays_one C q n h)

kept_own : (C : Content) (q : Request) → finite.contains_key (content_after C (q ∷ [])).kept (number_of q) ≡ true
kept_own C q = by_case (finite.contains_key C.kept (number_of q)) refl
  where
    by_case : (b : Bool) → finite.contains_key C.kept (number_of q) ≡ b → finite.contains_key (content_after C (q ∷ [])).kept (number_of q) ≡ true
    by_case true known = stays_one C q (number_of q) known
    by_case false new = ap is_some (get_kept-own C q (number_of q) new (same_number-self (number_of q)))

-- a request that was decided has a kept reply
pub is_kept : (start : Content) (all : List Request) (q : Request) → list_any (is_of (number_of q)) all ≡ true
    → finite.contains_key (content_after start all).kept (number_of q) ≡ true
is_kept start [] q h = absurd (true≢false (sym h))
is_kept start (r ∷ all) q h = ap (λ T. finite.contains_key T.kept (number_of q)) (content_after-first start r all) ∙ by_case (is_of (number_of q) r) refl (is_kept (content_after start (r ∷ [])) all q)
  where
    by_case : (b : Bool) → is_of (number_of q) r ≡ b
        → (list_any (is_of (number_of q)) all ≡ true → finite.contains_key (content_after (content_after start (r ∷ [])) all).kept (number_of q) ≡ true)
        → finite.contains_key (content_after (content_after start (r ∷ [])) all).kept (number_of q) ≡ true
    by_case true same rest =
        stays (content_after start (r ∷ [])) all (number_of q)
        (subst (λ n. finite.contains_key (content_after start (r ∷ [])).kept n ≡ true) (sym (same_number-is (number_of q) (number_of r) same)) (kept_own start r))
    by_case false apart rest =
        rest (sym (ap (λ b. b || list_any (is_of (number_of q)) all) apart) ∙ h)

-- ---- the reply that was told is the one that is kept
said_again : (k : Kept) (asked : Act) (reply : Reply) → reply_again k.act k.reply asked ≡ reply → reply ≢ Refused NumberReused
    → k ≡ record { act = asked; reply = reply }
said_again k asked reply is own = by_case (same_act k.act asked) refl
  where
    by_case : (b : Bool) → same_act k.act asked ≡ b → k ≡ record { act = asked; reply = reply }
    by_case true same =
        let says : k.reply ≡ reply = sym (ap (λ b. cond b k.reply (Refused NumberReused)) same) ∙ is in
        let of : k.act ≡ asked = same_act-is k.act asked same in
        λ i. record { act = of i; reply = says i }
    by_case false other = absurd (own (sym is ∙ ap (λ b. cond b k.reply (Refused NumberReused)) other))

pub keeps_told : (start : Content) (all : List Request) (q : Request) (reply : Reply) → list_any (is_of (number_of q)) all ≡ true
    → reply ≡ answer start all q → reply ≢ Refused NumberReused
    → finite.get (content_after start all).kept (number_of q) ≡ Some (record { act = q.act; reply = reply })
keeps_told start all q reply asked is own = by_case (finite.get (content_after start all).kept (number_of q)) refl
  where
    by_case : (o : Option Kept) → finite.get (content_after start all).kept (number_of q) ≡ o
        → finite.get (content_after start all).kept (number_of q) ≡ Some (record { act = q.act; reply = reply })
    by_case None none = absurd (true≢false (sym (is_kept start all q asked) ∙ ap is_some none))
    by_case (Some k) some =
        some ∙ ap Some (said_again k q.act reply (answer_again (content_after start all) q k some ∙ answer_after start all q ∙ sym is) own)

-- ---- NumberReused is told of a number that the start keeps, if one number has one act among the requests
pub reused_is_kept : (start : Content) (all : List Request) (q : Request) → list_any (is_of (number_of q)) all ≡ true
    → AllByRecursion (λ r. is_of (number_of q) r ≡ true → r.act ≡ q.act) all → answer start all q ≡ Refused NumberReused
    → finite.contains_key start.kept (number_of q) ≡ true
reused_is_kept start all q asked one is = by_case (finite.get start.kept (number_of q)) refl
  where
    first_has : (r : Request) → r.act ≡ q.act → find (is_of (number_of q)) all ≡ Some r → finite.get start.kept (number_of q) ≡ None → finite.contains_key start.kept (number_of q) ≡ true
    first_has r same first none =
        let same_acts : same_act r.act q.act ≡ true = ap (λ a. same_act a q.act) same ∙ same_act-self q.act in
        let says : (act (books_after start (before (number_of q) all)) r.act).reply ≡ Refused NumberReused =
        sym (ap (λ b. cond b (act (books_after start (before (number_of q) all)) r.act).reply (Refused NumberReused)) same_acts)
        ∙ sym (ap (answer_by start all q) first) ∙ sym (ap (answer_for start all q) none) ∙ is in
        absurd (never_reused (shown (books_after start (before (number_of q) all))) r.act says)

    by_case : (o : Option Kept) → finite.get start.kept (number_of q) ≡ o → finite.contains_key start.kept (number_of q) ≡ true
    by_case (Some k) some = ap is_some some
    by_case None none =
        let (r, there, of, first) = found (is_of (number_of q)) all asked in
        first_has r (contained (λ s. is_of (number_of q) s ≡ true → s.act ≡ q.act) all r one there of) first none

-- ---- books stay sound
acted_sound : (keeps : (books : PlainBooks) (asked : Act) → IsSound books → IsActInRange asked → IsSound (books_after_act books asked))
    (books : PlainBooks) (all : List Request) → IsSound books → AllByRecursion (λ q. IsActInRange q.act) all → IsSound (acted books all)
acted_sound keeps books [] sound h = sound
acted_sound keeps books (q ∷ all) sound h = acted_sound keeps (books_after_act books q.act) all (keeps books q.act sound h.0) h.1

pub sound_after : (keeps : (books : PlainBooks) (asked : Act) → IsSound books → IsActInRange asked → IsSound (books_after_act books asked))
    (start : Content) (all : List Request) → IsSound start.books → AllByRecursion (λ q. IsActInRange q.act) all → IsSound (content_after start all).books
sound_after keeps start all sound h = acted_sound keeps start.books (once start all) sound (all_once (λ q. IsActInRange q.act) start all h)
